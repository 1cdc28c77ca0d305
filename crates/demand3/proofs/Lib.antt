-- What follows from the laws in specs/: of recovery (Recovered) and of normal forms (NormalForms), that a call's equations give its promise (Decided, BoxCalls,
-- Comparisons), and what follows for several calls (Consequences, Comparisons, SameRecoveries).
pub mod Recovered
pub mod Decided
pub mod NormalForms
pub mod Consequences
pub mod BoxCalls
pub mod Comparisons
pub mod SameRecoveries
