pub mod SumLemmas
pub mod ClaimLemmas
pub mod ClosedLemmas
pub mod MergeLemmas
pub mod LapLemmas
pub mod ReplyLemmas
