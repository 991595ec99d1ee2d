pub mod Blocks
pub mod Searching
pub mod Victims
