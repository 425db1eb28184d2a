pub mod Test
pub mod Ladder
pub mod Six
pub mod Size
