-- What the closures ask of the relations that they are given.
pub mod Classes
