-- What is proved of the figures' text.
pub mod Ending
pub mod Lengths
pub mod Telling
pub mod Unique
pub mod Answered
