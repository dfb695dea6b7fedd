-- Small lemmas on entries of lists, for the other groups.
pub mod Entries
