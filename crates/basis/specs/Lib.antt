-- What the searches and a cut stand on.
pub mod Laid
