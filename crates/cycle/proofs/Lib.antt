-- From rows of words to the least cycle.
pub mod Entries
pub mod Trimming
pub mod Layering
pub mod Starts
pub mod Writing
