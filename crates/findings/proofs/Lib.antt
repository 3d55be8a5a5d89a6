-- Laws of the family, and of what a search's answer means.
pub mod Family
pub mod Meant
