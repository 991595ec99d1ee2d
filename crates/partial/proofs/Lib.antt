pub mod Slots
pub mod Partials
pub mod Writing
pub mod Steps
