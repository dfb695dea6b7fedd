pub mod SeenFrames
