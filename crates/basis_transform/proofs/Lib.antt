-- The steps of a conversion.
pub mod Steps
