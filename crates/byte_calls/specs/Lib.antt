-- Tables as bytes (Bytes, ByteLaws, NormalTables), what the calls answer and leave (Calls, TableLaws) by their settings (Forms), and what that means: of an
-- accepted fit (FitDemands), of recovery and value (BytePromises).
pub mod Bytes
pub mod ByteLaws
pub mod NormalTables
pub mod Calls
pub mod Forms
pub mod TableLaws
pub mod FitDemands
pub mod BytePromises
