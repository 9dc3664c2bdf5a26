-- How things are held, and the steps of what is proved. Not for callers.
pub mod HeldIter
pub mod HeldRead
pub mod HeldRows
pub mod HeldWalk
pub mod KnownLists
pub mod RowBound
pub mod TouchedNames
