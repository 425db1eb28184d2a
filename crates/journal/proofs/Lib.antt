pub mod Entries
pub mod Unique
pub mod Joined
pub mod Journals
pub mod OneReplay
pub mod Cases
pub mod Lines
