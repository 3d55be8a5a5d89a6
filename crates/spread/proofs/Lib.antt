-- Laws of relations that spread.
pub mod Arms
pub mod Stepping
pub mod Forking
