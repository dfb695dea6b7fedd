use Rattle.std.proofs.Common.{◌≡◌, drop}
use Rattle.tal_declarations.specs.Headings.{with_locals}
use Rattle.tal_declarations.proofs.heading.declare_locals.Given as goal

-- with those that are left the names become what all make of them
abbrev pub invariant-loop-local : goal.invariant-loop-local
invariant-loop-local l = with_locals l.names (drop l.local-index l.locals) ≡ with_locals l.initial.names l.locals
