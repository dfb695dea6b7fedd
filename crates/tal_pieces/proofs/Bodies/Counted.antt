-- The number of a statement that isn't past the limit.
use Rattle.std.proofs.Common.{◌≡◌, [], ap}
use Rattle.tal_tokens.specs.declared.token.At.{At}
use Rattle.tal_names.specs.declared.fault.Rule.TheVariants.{Limit}
use Rattle.tal_rules.specs.declared.walk.Walk.{Walk}
use Rattle.tal_names.specs.Faults.{fault_at, if_so}
use Rattle.tal_rules.specs.Statements.{number_faults}
use Rattle.tal_pieces.proofs.Standing.Stands.{IsCounted}
use Rattle.tal_tree.specs.declared.limit.ProgramLimit.TheVariants as program_limit

pub counted : (w : Walk) (at : At) → IsCounted w → number_faults w.number at ≡ []
counted w at h = ap (λ over. if_so over (fault_at at (Limit program_limit.Statements))) h
