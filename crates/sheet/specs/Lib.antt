-- Monday's figures as text.
pub mod Sheet
pub mod Answer
