-- What the searches' answers tell of a table.
pub mod Places
pub mod Reading
pub mod Pairing
pub mod Sources
pub mod Cycles
pub mod Writing
pub mod Closing
pub mod Turning
pub mod Stepping
