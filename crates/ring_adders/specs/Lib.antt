pub mod Sums
pub mod Views
pub mod SumRule
pub mod Steps
pub mod Adders
