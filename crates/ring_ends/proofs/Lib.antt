mod BoardLemmas
mod ClaimLemmas
mod CopyLemmas
pub mod EndLemmas
pub mod HeldLemmas
mod LeavingLemmas
mod ShownLemmas
mod SlotLemmas
pub mod StopLemmas
mod TakeLemmas
