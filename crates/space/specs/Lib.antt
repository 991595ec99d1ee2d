pub mod Ordered
pub mod Victims
