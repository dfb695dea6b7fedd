pub mod Advice
pub mod Answer
pub mod Choice
pub mod Due
pub use Rattle.discipline
pub use Rattle.discipline.specs.due_search
pub use Rattle.discipline.specs.flow_paths
pub use Rattle.discipline.specs.reason_dues
