-- What the calls promise, stated and proved. Words.antt, Settings.antt and Promises.antt have the words and the statements, which the contracts of the calls
-- cite; the rest are laws that rest on none of these proofs, and examples. What rests on the laws is in proofs/: that a call's equations give its promise, and
-- what follows for several calls.
-- docs/DEMAND-3.md is the way in.
pub mod Words
pub mod Tests
pub mod Settings
pub mod Promises
pub mod SameWords
pub mod Recovery
pub mod Coefficients
pub mod AnyModulus
pub mod Examples
pub mod SameExamples
pub mod Also
