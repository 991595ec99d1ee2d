pub mod Phases
pub mod Scans
