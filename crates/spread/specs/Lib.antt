-- Relations that spread along steps that columns give.
pub mod Apart
pub mod Handed
