pub mod NextEntry
pub mod Written
pub mod NewStore
pub mod Turns
pub mod Started
pub mod Replayed
