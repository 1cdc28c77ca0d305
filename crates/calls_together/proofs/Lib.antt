-- The statements about several calls, from the promises of each.
pub mod Together
pub mod RoundTrips
pub mod KeptRooms
pub mod Compared
pub mod MovedForms
