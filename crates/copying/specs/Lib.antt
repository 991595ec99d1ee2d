pub mod Copyable
