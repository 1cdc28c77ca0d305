-- The one module
pub mod VariableLines
