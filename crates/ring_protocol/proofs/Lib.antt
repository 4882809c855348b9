pub mod Readers
pub mod Dispatch
pub mod ReadCommands
pub mod ReadReplies
pub mod Joined
pub mod Written
pub mod Lengths
