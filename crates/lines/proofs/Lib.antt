-- Laws of the loops that only proofs cite: the passes of the differences (Passes, PairPasses, TwoPasses), where these may stop (NothingLeft), two passes of a
-- conversion at once (LinePasses), the count of cells (BoxSizes).
pub mod NothingLeft
pub mod Passes
pub mod PairPasses
pub mod TwoPasses
pub mod LinePasses
pub mod BoxSizes
