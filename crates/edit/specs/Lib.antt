-- What an append and a cut answer, and what they write.
pub mod Append
pub mod Cut
pub mod Columns
