-- How this crate holds its values, and what its own functions say. Callers need none of it.
pub mod SmallBytes
pub mod Offer
pub mod Cut
pub mod ByteClass
pub mod Front
pub mod HeldPlaces
pub mod HeldOffers
pub mod HeldMarks
pub mod PrintedAtoms
