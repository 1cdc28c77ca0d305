-- The one module
pub mod NormalCalls
