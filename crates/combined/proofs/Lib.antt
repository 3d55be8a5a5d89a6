-- Laws of the relations that are combined here.
pub mod Turns
pub mod Ways
pub mod Racing
pub mod Handing
