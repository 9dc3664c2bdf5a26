-- How this crate holds what it has read, and what its own functions say. Callers need none of it.
pub mod Steps
pub mod Reads
pub mod Views
pub mod Faults
pub mod Values
pub mod CaseBits
pub mod Searchers
pub mod FieldTable
