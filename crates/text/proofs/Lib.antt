-- Laws of written text and of decimal numbers.
pub mod Laws
