-- The lines of a number and of a refusal, room for a text, and a text handed over.
pub mod Phrases
pub mod Room
pub mod Handed
