-- The words of the inner contracts: falling products in a table, and the lengths of what is lent.
pub mod Shapes
