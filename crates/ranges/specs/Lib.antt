pub mod Look
pub mod Rows
pub mod Update
