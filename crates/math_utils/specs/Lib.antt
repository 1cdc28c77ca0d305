-- The bits of a coefficient that count (Precision), what falling products say and promise (Falling), both Stirling tables under one name (Kinds), and the
-- rules of the constant tables (OddTables).
pub mod Precision
pub mod Falling
pub mod Kinds
pub mod OddTables
