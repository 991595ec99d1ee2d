pub mod Fit
pub mod Scan
pub mod Views
pub mod Firsts
