-- What is proved of figures.
pub mod Adding
pub mod Laws
pub mod Unique
