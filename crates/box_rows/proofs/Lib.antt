-- Laws of the loops: the layout of a row, cell by cell (NextCells) and variable by variable (RowLayouts), what is done at one cell (AtCells), walks over many
-- (Turns), what a walk leaves (Results).
pub mod RowLayouts
pub mod NextCells
pub mod AtCells
pub mod Turns
pub mod Results
