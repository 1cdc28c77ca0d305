-- The entries of a Stirling table, cell by cell (Entries), and the loops of the falling products (FallingLoops).
pub mod Entries
pub mod FallingLoops
