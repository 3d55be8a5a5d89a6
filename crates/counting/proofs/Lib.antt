-- What is proved of counting one table.
pub mod Answering
