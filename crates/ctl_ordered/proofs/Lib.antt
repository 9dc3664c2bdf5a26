pub mod QueueLemmas
pub mod SlotLemmas
pub mod OrderLemmas
