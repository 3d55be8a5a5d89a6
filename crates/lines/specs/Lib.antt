-- The report as text.
pub mod Lines
pub mod Room
pub mod Witnesses
pub mod Judged
pub mod Answer
