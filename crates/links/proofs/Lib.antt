-- What links of records tell of relations and findings.
pub mod Linking
pub mod Sources
pub mod Climbs
pub mod Branches
pub mod Sourced
pub mod Reading
pub mod Showing
