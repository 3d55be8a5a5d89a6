-- Laws behind the steps, rows and cycles of the plain engine.
pub mod Owned
pub mod Ways
pub mod Layering
pub mod Shorter
pub mod StepsBack
pub mod AmongSc
pub mod Cycling
