use Rattle.std.proofs.Common.{◌≡◌, ◌++◌, drop}
use Rattle.tal_declarations.specs.Headings.{names_of}
use Rattle.tal_syntax.specs.Seen.{seen_names}
use Rattle.tal_declarations.proofs.heading.push_names.Given as goal

-- those so far and those that are left are all
abbrev pub invariant-loop-next : goal.invariant-loop-next
invariant-loop-next l =
    l.all ++ names_of (seen_names (drop l.next-index l.more)) ≡ l.initial.all ++ names_of (seen_names l.more)
