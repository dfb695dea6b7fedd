pub mod DecidedLemmas
pub mod VerifiedLemmas
