-- What was found read again, how long the report can be, and the text of an answer.
pub mod Reading
pub mod Lengths
pub mod Answering
pub mod Telling
pub mod Unique
