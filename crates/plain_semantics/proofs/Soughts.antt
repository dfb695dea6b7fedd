-- Looking for a place among openers that stand one list after another.
use Rattle.std.proofs.Common.{◌≡◌, ℕ, zero, suc, ◌+◌, List, [], ◌∷◌, ◌++◌, Option, Some, None, slice_get, length, drop}
use Rattle.std.proofs.Common.{◌<◌, refl, ap, sym, ◌∙◌, arith}
use Rattle.std.proofs.Math.ListN.{get_or}
use Rattle.std.proofs.Math.Seq.{drop-cons}
use Rattle.process_semantics.specs.tal_tree.specs.declared.site.ProcessSpec.{ProcessSpec}
use Rattle.plain_semantics.specs.Openers.{files_of, files_from, processes_from}
use Rattle.std.specs.Option.{option_map}
use Rattle.process_semantics.specs.tal_tree.specs.declared.site.Who.{Who}
use Rattle.process_semantics.specs.tal_tree.specs.declared.site.OpenerSpec.{OpenerSpec}
use Rattle.plain_semantics.specs.declared.placed.Sought.{Sought}
use Rattle.plain_semantics.specs.declared.placed.Sought.TheVariants.{At, Past}
use Rattle.plain_semantics.specs.Sought.{sought}

-- what was found in a first list, or else in a second one
abbrev pub sought_on : Sought → List OpenerSpec → Sought
sought_on (At who) openers = At who
sought_on (Past left) openers = sought openers left

pub sought_append : (first second : List OpenerSpec) (place : ℕ)
    → sought (first ++ second) place ≡ sought_on (sought first place) second
sought_append [] second place = refl
sought_append (opener ∷ first) second zero = refl
sought_append (opener ∷ first) second (suc place) = sought_append first second place

-- who was found
abbrev pub found_who : Sought → Option Who
found_who (At who) = Some who
found_who (Past left) = None

pub sought_who : (openers : List OpenerSpec) (place : ℕ)
    → option_map (λ opener. opener.who) (slice_get openers place) ≡ found_who (sought openers place)
sought_who [] place = refl
sought_who (opener ∷ openers) zero = refl
sought_who (opener ∷ openers) (suc place) = sought_who openers place

-- among the files of processes, from one of them on: first among its files
pub sought-there : (name : List ℕ) (number place : ℕ) (specs : List ProcessSpec) (spec : ProcessSpec)
    → number < length specs → spec ≡ get_or specs number spec
    → sought (processes_from name number (drop number specs)) place
    ≡ sought_on (sought (files_from name number 0 (files_of spec.what)) place)
    (processes_from name (number + 1) (drop (number + 1) specs))
sought-there name number place specs spec within is =
    let next : suc number ≡ number + 1 = omega arith in
    ap (λ all. sought (processes_from name number all) place)
    (drop-cons specs number spec within ∙ ap (λ s. s ∷ drop (suc number) specs) (sym is)
    ∙ ap (λ k. spec ∷ drop k specs) next)
    ∙ sought_append (files_from name number 0 (files_of spec.what))
    (processes_from name (number + 1) (drop (number + 1) specs)) place
