-- Laws of sets and rows of words.
pub mod Digits
pub mod Sets
pub mod Parts
pub mod Rows
pub mod Noted
pub mod Leading
pub mod Along
pub mod Steps
pub mod Walking
pub mod Unique
