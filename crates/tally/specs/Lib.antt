-- Monday's figures: what each counts, and their sums.
pub mod Answer
pub mod Figures
pub mod Sums
