-- Laws that every layer shares.
pub mod Says
pub mod Steps
pub mod Closure
pub mod Least
pub mod Witness
pub mod Passed
pub mod Walks
pub mod Renumbered
pub mod Fits
