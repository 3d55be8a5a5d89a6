-- What is proved of an append and of a cut.
pub mod NewRecord
pub mod OneAppend
pub mod Building
pub mod NewNumbers
pub mod KeptBytes
pub mod RecordLinks
pub mod WritingOut
pub mod Completing
pub mod Lending
pub mod Answering
pub mod OneCut
pub mod Relinked
pub mod RightCut
