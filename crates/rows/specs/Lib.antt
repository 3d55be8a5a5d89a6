-- What sets and rows of words hold, and what the functions on them promise.
pub mod Sets
pub mod Numbers
pub mod Rows
pub mod Found
pub mod Steps
