-- Monday's figures over a batch.
pub mod Monday
