pub mod Ranges
mod Refused
