-- What may be shown; only the clauses of private functions cite it.
use Rattle.std.specs.Prelude.{◌≡◌, Option, None, Some}
use Rattle.tal_tree.specs.declared.act.Shown.{Shown}

-- nothing is shown, or what is to be shown next
abbrev pub IsDue : Option Shown → Option Shown → Type 0
IsDue None next = Unit {0}
IsDue (Some told) next = next ≡ Some told
