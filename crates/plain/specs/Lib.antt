-- What the plain engine's search over pairs tells.
pub mod Pairs
