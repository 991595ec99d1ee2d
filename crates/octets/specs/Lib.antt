pub mod Number
pub mod Units
pub mod Xor
