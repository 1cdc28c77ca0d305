-- Where the walk finds the other form's coefficients (PlaceLaws), which walks are needed (CoveredBoxes, BothWays), the loops over the supports (Lookups), the
-- walk over sub-boxes (WalkTurns), what the call answers (Replies).
pub mod PlaceLaws
pub mod CoveredBoxes
pub mod Lookups
pub mod WalkTurns
pub mod BothWays
pub mod Replies
