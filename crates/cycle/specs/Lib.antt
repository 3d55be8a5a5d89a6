-- What the parts of the search for a least cycle leave.
pub mod Distances
pub mod Trimmed
pub mod Rounds
