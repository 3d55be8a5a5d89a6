-- What the questions on two records tell.
pub mod LastStep
pub mod Climb
pub mod Meet
