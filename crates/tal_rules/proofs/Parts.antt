-- The least of faults, part by part.
use Rattle.tal_names.proofs.Parts.{least-append}

pub ruleset parts = (least-append)
