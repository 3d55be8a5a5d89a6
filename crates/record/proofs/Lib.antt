-- What is proved of the sixteen bytes of a record.
pub mod Parts
pub mod Cases
pub mod Tests
pub mod Resting
pub mod AtFault
pub mod BytesBack
pub mod Exact
pub mod Edges
pub mod RecordBack
pub mod RoundTrip
