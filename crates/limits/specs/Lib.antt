-- How many records a table may have.
pub mod Limit
