pub mod Underway
pub mod Repointing
pub mod Dues
pub mod Moves
pub mod Rooms
