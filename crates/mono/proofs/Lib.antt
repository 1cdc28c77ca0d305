-- The first entries of a list: their sum, the largest (Taken).
pub mod Taken
