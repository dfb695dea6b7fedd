-- Which copy of a process is at a node: where its two copies are in two processors, the one that is there.
use Rattle.std.proofs.Common.{◌≡◌, ◌≢◌, ℕ, ◌==◌, Bool, true, false, if◌then◌else◌, Option, Some, None, option_and_then}
use Rattle.std.proofs.Common.{refl, subst, ap, ◌∙◌}
use Rattle.std.proofs.lemmas.Bool.{eqb-true, eq-eqb, ne_eqb}
use Rattle.world_semantics.specs.declared.which.Which.{Which}
use Rattle.world_semantics.specs.declared.which.Which.TheVariants.{First, Second}
use Rattle.tal_tree.specs.declared.site.Site.{Site}
use Rattle.world_semantics.specs.World.{Pair, World, copy_of}
use Rattle.world_semantics.specs.Messages.{Message}
use Rattle.world_semantics.specs.Records.{records_of}
use Rattle.world_semantics.specs.Running.{Done}
use Rattle.world_semantics.proofs.Lifted.{lifted}
use Rattle.world_semantics.proofs.Lists.{some-same}
use Rattle.computed_changes.specs.Handed.{brought_to, copy_in, step_by}

-- the two copies of a process are in two processors
abbrev pub AreApart : Pair → Type 0
AreApart pair = pair.first.processor ≢ pair.second.processor

here-by : (node : ℕ) (pair : Pair) (k : Which) (first second : Bool) → (pair.first.processor == node) ≡ first
    → (pair.second.processor == node) ≡ second
    → (if first then Some First else if second then Some Second else None) ≡ Some k → (copy_of k pair).processor ≡ node
here-by node pair k true second a b e =
    subst (λ (j : Which). (copy_of j pair).processor ≡ node) (some-same e) (eqb-true _ _ a)
here-by node pair k false true a b e =
    subst (λ (j : Which). (copy_of j pair).processor ≡ node) (some-same e) (eqb-true _ _ b)
here-by node pair k false false a b e = absurd (cc)

copy-here : (node : ℕ) (pair : Pair) (k : Which) → copy_in node pair ≡ Some k → (copy_of k pair).processor ≡ node
copy-here node pair k e = here-by node pair k (pair.first.processor == node) (pair.second.processor == node) refl refl e

copy-found : (pair : Pair) (k : Which) → AreApart pair → copy_in (copy_of k pair).processor pair ≡ Some k
copy-found pair First apart = rw (eq-eqb pair.first.processor pair.first.processor refl) refl
copy-found pair Second apart =
    rw (
      ne_eqb pair.first.processor pair.second.processor apart,
      eq-eqb pair.second.processor pair.second.processor refl,
    ) refl

-- what a message does that comes to a copy of the process of a number
abbrev does : Site → ℕ → Message → World → Pair → Which → Option Done
does site number message w pair k = lifted number w (step_by site number pair (records_of w) message k)

-- the copy at a node to which a message comes
pub record AtCopy (site : Site) (number node : ℕ) (message : Message) (w : World) (found : Option Pair) (done : Done) :
    Type 0 where
  pub pair : Pair
  pub k : Which
  pub there : found ≡ Some pair
  pub here : (copy_of k pair).processor ≡ node
  pub made : does site number message w pair k ≡ Some done

pub at-copy : (site : Site) (number node : ℕ) (message : Message) (w : World) (there : Option Pair) (done : Done)
    → brought_to site number node message w there ≡ Some done → AtCopy site number node message w there done
at-copy site number node message w None done e = absurd (cc)
at-copy site number node message w (Some pair) done e = by (copy_in node pair) refl e
  where
    by : (found : Option Which) → copy_in node pair ≡ found
        → lifted number w (option_and_then (step_by site number pair (records_of w) message) found) ≡ Some done
        → AtCopy site number node message w (Some pair) done
    by None c e = absurd (cc)
    by (Some k) c e = record { pair = pair; k = k; there = refl; here = copy-here node pair k c; made = e }

-- where the copies are apart, it comes to the one at the node
pub at-found : (site : Site) (number node : ℕ) (message : Message) (w : World) (there : Option Pair) (pair : Pair)
    (k : Which) → there ≡ Some pair
    → AreApart pair → (copy_of k pair).processor ≡ node
    → brought_to site number node message w there ≡ does site number message w pair k
at-found site number node message w there pair k is apart here =
    let found : copy_in node pair ≡ Some k = subst (λ n. copy_in n pair ≡ Some k) here (copy-found pair k apart) in
    ap (brought_to site number node message w) is
    ∙ ap (λ (j : Option Which). lifted number w (option_and_then (step_by site number pair (records_of w) message) j))
    found
