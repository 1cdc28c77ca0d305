-- What each byte of a line does to the numbers read so far (Lines), and the numbers of the calls (Calls).
pub mod Lines
pub mod Calls
