-- Laws of the bare solver: rows, a row cleared, the rows of a column cleared, the loop over them, its parts, a column eliminated, back-substitution, the
-- whole, what it solves; then of the four by four solver: its matrix, its call.
pub mod RowLaws
pub mod ClearLaws
pub mod ClearedLaws
pub mod RowLoops
pub mod PartLaws
pub mod ColumnLaws
pub mod TestLaws
pub mod SubstitutionLaws
pub mod SolverLaws
pub mod SolvesLaws
pub mod FixedLaws
pub mod FixedCalls
