-- What is worked out of one more layer of a condition, and of a chain of AND and OR from its first test on.
use Rattle.std.proofs.Common.{◌≡◌, ◌<◌, List, [], ◌∷◌, ◌++◌, ap, sym, ◌∙◌, arith}
use Rattle.std.specs.Prelude.{Bool, not}
use Rattle.tal_tree.specs.Rows.{not-is, and-is, or-is}
use Rattle.tal_tree.specs.declared.expression.Cond.{Cond, Not, size-Cond}
use Rattle.tal_values.specs.declared.chain.Junction.{Junction}
use Rattle.tal_values.specs.declared.chain.Junction.TheVariants as junction
use Rattle.tal_values.specs.declared.chain.Link.{Link}
use Rattle.tal_values.specs.Chain.{joined, with_links}
use Rattle.tal_values.specs.Value.{Memory}
use Rattle.tal_values.proofs.ChainSteps.{linked-push}
use Rattle.tal_values.proofs.TruthSteps.{first_within, right_within}
use Rattle.value_traps.specs.Joined.{joined_worked}
use Rattle.value_traps.specs.Traps.{Worked, made, truth_or_trap}

pub worked-not : (m : Memory) (inner : Cond) → truth_or_trap m (Not inner) ≡ made not (truth_or_trap m inner)
worked-not m inner = ap (truth_or_trap m) (not-is inner)

pub worked-joined : (m : Memory) (junction : Junction) (left right : Cond)
    → truth_or_trap m (joined junction left right)
    ≡ joined_worked junction (truth_or_trap m left) (truth_or_trap m right)
worked-joined m junction.And left right = ap (truth_or_trap m) (and-is left right)
worked-joined m junction.Or left right = ap (truth_or_trap m) (or-is left right)

-- what the conditions that are left make of a condition that was worked out so is the whole
pub record Climbs (m : Memory) (left : Worked Bool) (links : List Link) (whole : Cond) : Type 0 where
  pub below : Cond
  pub truth : truth_or_trap m below ≡ left
  pub chain : with_links below links ≡ whole

pub climbs_up : (m : Memory) {left : Worked Bool} {whole : Cond} {items : List Link} (links : List Link) (link : Link)
    → items ≡ links ++ link ∷ [] → Climbs m left items whole
    → Climbs m (joined_worked link.junction left (truth_or_trap m link.right.now)) links whole
climbs_up m {left} {whole} {items} links link popped so_far = record {
  below = joined link.junction so_far.below link.right.now;
  truth = worked-joined m link.junction so_far.below link.right.now
      ∙ (λ i. joined_worked link.junction (so_far.truth i) (truth_or_trap m link.right.now));
  chain = sym (linked-push so_far.below links link) ∙ ap (with_links so_far.below) (sym popped) ∙ so_far.chain;
}

pub link_within : {m : Memory} {left : Worked Bool} {whole : Cond} {items : List Link} (links : List Link) (link : Link)
    → items ≡ links ++ link ∷ [] → Climbs m left items whole → size-Cond link.right.now < size-Cond whole
link_within {m} {left} {whole} {items} links link popped so_far =
    let grown : with_links (joined link.junction so_far.below link.right.now) links ≡ whole =
    sym (linked-push so_far.below links link) ∙ ap (with_links so_far.below) (sym popped) ∙ so_far.chain in
    omega (
      arith,
      ap size-Cond grown,
      first_within (joined link.junction so_far.below link.right.now) links,
      right_within link.junction so_far.below link.right.now,
    )
