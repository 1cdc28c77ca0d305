-- The passes of a move, row by row (NodeRows), and two of them at once (NodePairs); the lines of a first variable (NodeLines); a move as a transform
-- (MoveLaws).
pub mod NodeRows
pub mod NodePairs
pub mod NodeLines
pub mod MoveLaws
