-- What each kind of store keeps.
pub mod Chips
pub mod Kept
pub mod Moves
pub mod Moving
pub mod Names
pub mod Repoint
pub mod Stays
pub mod Storing
pub mod Twins
