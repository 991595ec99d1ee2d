pub mod Encodings
pub mod Fetching
pub mod Glances
pub mod Offsets
pub mod Tops
pub mod Sizes
pub mod Fills
