pub mod Layout
pub mod Rotation
pub mod Page
pub mod Record
pub mod Collection
pub mod Images
