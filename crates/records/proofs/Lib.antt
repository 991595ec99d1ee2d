pub mod Plains
pub mod Tables
pub mod Totals
