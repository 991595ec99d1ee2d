pub mod Committing
pub mod Parities
