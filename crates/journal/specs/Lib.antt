pub mod Entries
pub mod Steps
pub mod Lines
pub mod Journals
pub mod Cases
