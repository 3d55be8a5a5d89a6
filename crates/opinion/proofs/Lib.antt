-- The third opinion is one text, that of the judge where there is one.
pub mod Unique
