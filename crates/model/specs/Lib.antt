-- Document 01's definitions: what a reader has to believe.
pub mod Table
pub mod Relations
pub mod WellFormed
pub mod Findings
pub mod Cut
pub mod Examples
