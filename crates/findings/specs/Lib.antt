-- The findings as a family, and what a search finds of one.
pub mod Family
pub mod Meant
