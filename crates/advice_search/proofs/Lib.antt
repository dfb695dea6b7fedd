pub mod Answering
pub mod Any
pub mod Below
pub mod Deepness
pub mod Places
pub mod Sets
pub mod Told
