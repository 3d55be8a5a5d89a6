-- What is proved of a selection.
pub mod Naming
pub mod Edges
