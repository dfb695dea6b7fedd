mod Depths
mod Lines
