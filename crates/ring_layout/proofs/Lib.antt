pub mod Laps
pub mod PlaceLemmas
pub mod PictureLemmas
pub mod WordBytes
pub mod CapacityLemmas
pub mod HeaderLemmas
pub mod ListLemmas
pub mod Sums
