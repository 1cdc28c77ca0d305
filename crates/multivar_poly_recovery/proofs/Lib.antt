-- Laws of the extraction, from a cell to the whole box, and of recovery's steps on a table (Multiples, WordDifferences).
pub mod CellFactors
pub mod Cells
pub mod Rows
pub mod RowUnits
pub mod Servings
pub mod SubBoxes
pub mod Whole
pub mod Multiples
pub mod WordDifferences
