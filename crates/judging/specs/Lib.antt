-- The verdict as a function of what was found.
pub mod Verdict
