-- A record fetched: its bytes, and whether the fetch is refused.
pub mod Fetched
