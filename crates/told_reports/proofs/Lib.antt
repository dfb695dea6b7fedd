pub mod LinesTold
pub mod Named
pub mod Numerals
pub mod ReadBack
pub mod Told
pub mod Words
