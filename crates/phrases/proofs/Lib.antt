-- Pieces of text, how long the lines can be, and a text handed over.
pub mod Pieces
pub mod Lengths
pub mod Handing
pub mod Written
pub mod Worked
