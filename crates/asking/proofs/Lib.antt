-- The laws behind the questions on two records.
pub mod Asked
pub mod LastSteps
pub mod Climbing
pub mod Chains
