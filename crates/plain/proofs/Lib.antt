-- The laws of the plain engine.
pub mod Reading
pub mod Pairing
pub mod Agrees
