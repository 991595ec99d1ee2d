pub mod Readings
pub mod Stamping
pub mod Statements
pub mod Totals
