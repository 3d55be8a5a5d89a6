-- What is proved of the figures over a batch.
pub mod Unique
pub mod Joined
pub mod Turn
