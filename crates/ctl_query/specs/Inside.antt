-- How this crate's own functions go about the answers. Callers need none of it.
pub mod AskedNames
pub mod Askers
pub mod KeptLines
pub mod ListedAtoms
pub mod Namings
pub mod Repeats
pub mod RowSources
pub mod SourceLines
pub mod TextParts
