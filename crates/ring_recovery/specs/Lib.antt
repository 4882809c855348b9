pub mod Image
pub mod Headers
pub mod Recovered
