-- What slots and parity pages hold, and what the record stores of a commit and of a write make of it.
pub mod Carries
pub mod CommitRecord
pub mod Contents
pub mod Feeds
pub mod Log
pub mod Costs
pub mod Entries
pub mod NewRecord
pub mod NewTicket
pub mod Parity
pub mod Rebuild
pub mod WriteRecord
