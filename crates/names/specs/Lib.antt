pub mod Checked
pub mod Stamps
