-- What the extraction promises of a cell, a row and a box (Extracted), over the invariant of a loop that stops at a failed test (Tested); products of a table's
-- numbers (Products).
pub mod Tested
pub mod Extracted
pub mod Products
