-- What the columns of a table tell of its relations.
pub mod Filling
pub mod BytesTell
pub mod Facts
pub mod Before
pub mod Apart
pub mod Races
pub mod Writes
pub mod Sequential
pub mod Shown
pub mod Lending
