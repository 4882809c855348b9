pub mod RecordLemmas
pub mod QueueLemmas
mod FlagLemmas
pub mod KeptLemmas
pub mod ShownLemmas
pub mod ValueSteps
pub mod ListingLemmas
pub mod AgreeLemmas
mod AvailableLemmas
