pub mod WhyText
pub use Rattle.trace_print
