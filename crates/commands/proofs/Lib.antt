pub mod Cases
pub mod Digits
pub mod Listed
pub mod Spelling
pub mod Taken
pub mod Theorems
