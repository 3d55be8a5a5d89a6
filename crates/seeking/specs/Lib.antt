-- What the searches ask of columns and rows, and what these hold of a table.
pub mod Reads
pub mod Pairs
pub mod Writes
pub mod Sequential
