-- The figures of one table.
pub mod Parts
pub mod Counting
