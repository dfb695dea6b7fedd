-- Small lemmas on faults, entries of lists and limits, and the parts of a text, for the other groups.
pub mod ArgumentCounts
pub mod Entries
pub mod Faultless
pub mod Limits
pub mod Names
pub mod TextParts
