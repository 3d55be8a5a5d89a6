-- The number, the place and the byte of each refusal.
pub mod Numbers
