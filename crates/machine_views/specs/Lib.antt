pub mod Examples
pub mod Orders
pub mod Seen
pub mod Views
pub use Rattle.site_machine
pub use Rattle.site_machine.specs.message_layout
pub use Rattle.site_machine.specs.processes
