pub mod Printed
pub mod Signs
