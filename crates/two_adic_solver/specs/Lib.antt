-- The words of the contracts: tables that show a state, the four by four shape, rows subtracted, states that tables show, what back-substitution ends in,
-- and what it is to solve a system.
pub mod ShownStates
pub mod Fixed
pub mod Rows
pub mod Shown
pub mod Solved
pub mod Solves
