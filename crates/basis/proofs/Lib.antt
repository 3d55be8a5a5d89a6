-- Laws of what the searches and a cut stand on.
pub mod Conflicts
