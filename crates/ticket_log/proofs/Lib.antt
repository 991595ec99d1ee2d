pub mod Seeing
pub mod Walking
