-- What a batch holds, and answers over it.
pub mod Batch
pub mod Answers
pub mod Packed
pub mod Reading
