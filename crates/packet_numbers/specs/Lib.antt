pub use Rattle.packets_played.specs.accepted_sites
pub use Rattle.packets_played.specs.awaited_requests
pub use Rattle.packets_played
pub use Rattle.site_machine.specs.packet_wires
pub use Rattle.site_machine.specs.processes
pub use Rattle.site_machine.specs.node_copies
pub use Rattle.computed_changes.specs.sync_ids
pub use Rattle.world_semantics
