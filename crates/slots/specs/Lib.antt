-- The part of a table that is a record.
pub mod Part
