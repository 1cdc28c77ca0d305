-- What is asked of a key's table (Keys), and the four by four solver on lent tables (Systems).
pub mod Keys
pub mod Systems
