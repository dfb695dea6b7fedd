pub use Rattle.shown_forms
