-- What is proved of a fetch.
pub mod Fetching
