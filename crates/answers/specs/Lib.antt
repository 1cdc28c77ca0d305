-- The number and the value of each answer (Said), and what follows for a call that is known to be accepted or refused (Laws).
pub mod Said
pub mod Laws
