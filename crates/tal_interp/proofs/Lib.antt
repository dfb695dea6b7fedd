pub mod CalledFrames
pub mod Imaged
pub mod Keeps
pub mod ListedItems
pub mod Restored
pub mod Steps
