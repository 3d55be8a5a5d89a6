-- What is proved of readers.
pub mod Unique
