pub mod Lines
pub mod Parsing
