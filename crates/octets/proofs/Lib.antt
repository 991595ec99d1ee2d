pub mod Lists
pub mod Numbers
pub mod Units
pub mod Work
pub mod Xors
