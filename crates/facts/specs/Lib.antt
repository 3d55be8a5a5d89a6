-- What the relations rely on.
pub mod Sound
