-- Where there is room.
pub mod CleanPages
pub mod FreeSlot
pub mod Places
pub mod Room
