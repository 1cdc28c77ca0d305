-- The room of settings that pass, and of those that do not: of recovery (Rooms) and of the fit (FitRooms, its columns counted by RunningSums).
pub mod Rooms
pub mod RunningSums
pub mod FitRooms
