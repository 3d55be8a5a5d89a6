-- The sixteen bytes of a record: what they say, when they are refused, and which records can be written and read back.
pub mod Form
pub mod Refused
pub mod Fits
