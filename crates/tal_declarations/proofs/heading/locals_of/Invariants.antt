use Rattle.std.proofs.Common.{◌≡◌, ◌++◌, drop}
use Rattle.tal_declarations.specs.Headings.{locals_of}
use Rattle.tal_syntax.specs.Seen.{seen_locals}
use Rattle.tal_declarations.proofs.heading.locals_of.Given as goal

-- those so far and those that are left are all
abbrev pub invariant-loop-local : goal.invariant-loop-local
invariant-loop-local l =
    l.all ++ locals_of (seen_locals (drop l.local-index l.locals)) ≡ locals_of (seen_locals l.locals)
