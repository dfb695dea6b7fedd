pub mod InForm
pub mod NamesApart
pub mod ToldLine
pub mod Words
pub use Rattle.report_reader
pub use Rattle.trace_print
