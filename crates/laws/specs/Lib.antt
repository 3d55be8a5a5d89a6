-- What every layer shares: steps of a relation, least witnesses, tests that tell facts.
pub mod Steps
pub mod Least
pub mod Witness
pub mod Says
pub mod Tails
