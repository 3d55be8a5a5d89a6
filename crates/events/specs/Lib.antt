-- The words of document 01 on one event.
pub mod Words
