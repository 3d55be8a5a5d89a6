-- Pairs that rows tell.
pub mod Tokens
