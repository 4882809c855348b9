pub mod Turns
pub mod Storming
