-- The numbers that a pass sets, and blocks when all passes are made (MovePasses); the lines of a first variable (FirstLines);
-- lines of degree 3 (MovedFours).
pub mod MovePasses
pub mod FirstLines
pub mod MovedFours
