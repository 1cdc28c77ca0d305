-- What several calls say together.
pub mod Rooms
