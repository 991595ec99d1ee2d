-- Demand 3.
pub mod Alive
pub mod Events
pub mod Invariant
pub mod OnlyAdditions
pub mod Origins
pub mod Taken
pub mod Tickets
