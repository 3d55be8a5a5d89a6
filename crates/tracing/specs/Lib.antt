-- What the plain engine's steps, rows and cycles tell.
pub mod Around
pub mod Layers
pub mod Cycles
