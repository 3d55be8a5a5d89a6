-- What columns of codes say, and the relations that are combined from them and from others.
pub mod Columns
pub mod Races
pub mod Writes
pub mod Sequential
