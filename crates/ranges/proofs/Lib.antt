pub mod Counts
pub mod Leasts
pub mod Looks
pub mod Sums
pub mod Tallies
pub mod Tests
pub mod Updates
