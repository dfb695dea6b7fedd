pub mod Joints
pub mod Nets
pub mod Numbers
pub mod Packets
pub mod Places
pub mod Rounds
pub mod Senders
