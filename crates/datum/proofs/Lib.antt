-- The steps of a move.
pub mod MoveSteps
