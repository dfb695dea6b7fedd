pub mod Amounts
pub mod Bits
pub mod Cut
