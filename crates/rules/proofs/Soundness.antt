-- "Sound images": the statements, the tests that say the same, and what a call that passes them may rely on.
pub mod Table
pub mod Accepted
pub mod Checks
pub mod ChipChecks
pub mod RecordChecks
pub mod Statements
