-- Looking for a place among openers part by part; only the clauses of private functions cite it.
use Rattle.std.specs.Prelude.{ℕ, zero, suc, List, [], ◌∷◌}
use Rattle.process_semantics.specs.tal_tree.specs.declared.site.OpenerSpec.{OpenerSpec}
use Rattle.plain_semantics.specs.declared.placed.Sought.{Sought}
use Rattle.plain_semantics.specs.declared.placed.Sought.TheVariants.{At, Past}

-- who stands at this place, or how many places are left past the last opener
abbrev pub sought : List OpenerSpec → ℕ → Sought
sought [] place = Past place
sought (opener ∷ openers) zero = At opener.who
sought (opener ∷ openers) (suc place) = sought openers place
