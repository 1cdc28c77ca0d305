-- The entries that bytes hold (Entries), and laws of the cases in which the calls return: of the checks (CallLaws), of the fit (ByteFits).
pub mod Entries
pub mod CallLaws
pub mod ByteFits
