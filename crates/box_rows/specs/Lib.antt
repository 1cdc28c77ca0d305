-- The masks of a row (Rows), tables of a row by one variable after the other (Layouts), the mask along a line (Lines), loops over the sub-boxes of the last
-- variable (Walks), also to test them (Tested), what is done at cells (Jobs), the tests against the bounds (Bounds), the calls on tables of the right
-- lengths (Held).
pub mod Rows
pub mod Layouts
pub mod Lines
pub mod Walks
pub mod Tested
pub mod Jobs
pub mod Bounds
pub mod Held
