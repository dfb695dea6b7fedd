pub mod Serving
pub use Rattle.checkpoint_image
