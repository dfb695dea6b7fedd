mod Layers
mod Named
