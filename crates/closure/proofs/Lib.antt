-- Laws of closures.
pub mod Risen
pub mod Gathered
pub mod Classed
