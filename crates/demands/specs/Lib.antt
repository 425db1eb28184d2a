pub mod Demands
pub mod Room
pub mod Fences
