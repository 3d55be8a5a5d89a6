-- The answers of a batch.
pub mod Answer
pub mod Room
