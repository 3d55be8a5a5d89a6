-- What text is written.
pub mod Text
