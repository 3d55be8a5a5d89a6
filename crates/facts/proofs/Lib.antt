-- What the reader promises of a table, and what the bytes of its records say.
pub mod Bytes
pub mod Promise
pub mod Records
