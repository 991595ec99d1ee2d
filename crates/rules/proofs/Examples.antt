-- Worked examples of documents 01 and 02.
pub mod Cases
pub mod Compute
pub mod FirstWrite
pub mod Origins
pub mod Rows
pub mod Tickets
pub mod Turned
