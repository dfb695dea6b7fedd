pub mod Channels
pub mod Nodes
pub mod Packets
pub mod Watches
