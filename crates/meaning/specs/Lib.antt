-- What the words of the contracts and theorems mean. A reader who believes these files believes what the project says.
-- No law is proved here: the crate `theory` has them.
pub mod Tables
pub mod Sums
pub mod Factorials
pub mod Inverses
pub mod Stirling
pub mod Boxes
pub mod Values
pub mod Integers
pub mod Polynomials
pub mod Differences
pub mod Conversions
pub mod Recovery
pub mod Datum
pub mod Sameness
pub mod Replies
pub mod Settings
pub mod Leaves
pub mod Calls
pub mod Singletons
pub mod Elimination
pub mod Fit
pub mod Counts
