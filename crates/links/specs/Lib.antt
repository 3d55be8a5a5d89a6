-- Links of records, and what they lead to.
pub mod Links
pub mod Arms
pub mod Sourced
