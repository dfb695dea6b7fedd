pub use Rattle.accepted_sites
pub use Rattle.served_requests.specs.awaited_requests
pub use Rattle.idle_end
pub use Rattle.served_requests.specs.letter_laws
pub use Rattle.accepted_sites.specs.takeover_laws
pub use Rattle.accepted_sites.specs.tal_laws
pub use Rattle.letters
pub use Rattle.world_semantics
