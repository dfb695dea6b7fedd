pub mod Ends
pub mod Runs
pub use Rattle.site_machine.specs.node_copies
pub use Rattle.site_machine.specs.process_copies
pub use Rattle.site_machine
pub use Rattle.site_machine.specs.world_copies
pub use Rattle.site_machine.specs.packet_wires
