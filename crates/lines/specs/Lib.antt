-- The transforms of lines, and the laws of doing them to a table: along every variable (FlatTables), block by block (Blocks), and pass by pass in place:
-- differences (InPlace), and changes of nodes in either order (NodePasses, NodeOrders), which both conversions are (NodeConversions). What they are at a width
-- is in TransformLaws. The laws of the loops over variables and blocks (FlatLoops), of the numbers that a pass of a conversion sets (DivisionPasses), of lines
-- of degree 3 (FourTerms, FourWrites), by rows (RowLoops) and by neighbours (Neighbours), and of lines that are left (LowDegrees) serve other crates too.
pub mod FlatTables
pub mod Blocks
pub mod InPlace
pub mod Conversions
pub mod NodePasses
pub mod NodeOrders
pub mod NodeConversions
pub mod Transforms
pub mod TransformLaws
pub mod FlatLoops
pub mod DivisionPasses
pub mod FourTerms
pub mod FourWrites
pub mod RowLoops
pub mod Neighbours
pub mod LowDegrees
