pub mod Pages
pub mod Others
pub mod Whole
