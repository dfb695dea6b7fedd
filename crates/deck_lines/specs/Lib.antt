pub mod Cuts
pub mod EventSayingOf
pub mod Lines
pub mod Numbers
pub mod SayingOf
