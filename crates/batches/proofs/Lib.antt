-- What is proved of batches.
pub mod Standing
pub mod Whole
pub mod Joined
pub mod Unique
pub mod Passed
pub mod Reading
pub mod Answering
pub mod Edges
pub mod Packing
