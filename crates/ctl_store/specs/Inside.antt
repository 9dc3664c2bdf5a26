-- How things are held, and the steps of what is proved. Not for callers.
pub mod HeldPieces
pub mod HeldPins
pub mod NewLists
pub mod Sorted
pub mod Sound
