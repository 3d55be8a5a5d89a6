-- What is proved of a batch's answers.
pub mod Enough
pub mod Placing
pub mod Running
pub mod Copying
pub mod Unique
pub mod Stepping
