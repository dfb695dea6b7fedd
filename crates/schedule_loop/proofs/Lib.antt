pub mod Drained
pub mod Draining
pub mod Looking
pub mod Plain
pub mod Planning
pub mod Playing
