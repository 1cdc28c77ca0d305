-- What the calls answer, in each of their three cases (Replies), the value of a box by its sub-boxes (BoxValues), and how many falling products a point has
-- (FewProducts).
pub mod Replies
pub mod BoxValues
pub mod FewProducts
