pub mod Ladder
pub mod Six
pub mod Laws
pub mod Size
pub mod Child
