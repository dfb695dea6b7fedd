pub mod Orders
pub use Rattle.unfailing_judge
