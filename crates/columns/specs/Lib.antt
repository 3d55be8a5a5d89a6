-- The columns of a table.
pub mod Columns
pub mod Codes
pub mod Sequential
pub mod Lent
