pub mod Prefixes
pub mod Runs
pub mod Totals
pub mod View
pub mod Allowances
pub mod Lengths
pub mod Alike
