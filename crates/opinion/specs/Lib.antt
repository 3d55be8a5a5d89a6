-- The third opinion's text.
pub mod Opinion
