-- How things are held, and the steps of what is proved. Not for callers.
pub mod HeldFields
pub mod HeldNames
pub mod HeldStanza
pub mod NameSlots
pub mod Quick
