-- What a selection says.
pub mod Selection
