-- A table as bytes: the events that it holds, its test, and what the code computes on the way.
pub mod Events
pub mod Test
pub mod Computed
pub mod Standing
pub mod New
pub mod Siblings
