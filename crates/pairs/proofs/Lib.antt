-- Laws of the pairs that are asked for.
pub mod Taking
pub mod Seen
