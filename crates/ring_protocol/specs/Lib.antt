pub mod Field
pub mod Bad
pub mod Command
pub mod Reply
pub mod Reading
pub mod Writing
pub mod Codes
