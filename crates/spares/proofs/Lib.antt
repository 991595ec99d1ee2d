pub mod Fields
pub mod Judging
pub mod Scanning
pub mod Twins
