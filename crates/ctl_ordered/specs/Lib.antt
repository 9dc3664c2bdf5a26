pub mod Slots
pub mod Ordered
pub mod Lends
pub mod SlotLends
