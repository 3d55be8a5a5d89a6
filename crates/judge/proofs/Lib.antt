-- From what the searches find to the report, and from the report to the answer.
pub mod Grounds
pub mod Reporting
pub mod Answering
pub mod Unique
pub mod Widths
