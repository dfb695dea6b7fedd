pub mod Numbers
pub mod Within
