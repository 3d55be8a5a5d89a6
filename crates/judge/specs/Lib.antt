-- The answer of a judging, and what the judge's parts promise each other.
pub mod Answer
pub mod Rooms
pub mod Parts
