-- What is proved of a table as bytes.
pub mod Search
pub mod Telling
pub mod Unique
pub mod Exact
pub mod Standing
pub mod Siblings
pub mod Columns
pub mod Front
pub mod WellFormed
pub mod Written
pub mod NewRecord
pub mod Edges
