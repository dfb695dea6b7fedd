-- The truth of one more layer, and of a chain of AND and OR from its first test on.
use Rattle.std.proofs.Common.{◌≡◌, ◌<◌, ◌≤◌, List, [], ◌∷◌, ◌++◌, ap, sym, ◌∙◌, arith}
use Rattle.std.specs.Prelude.{Bool, not, Option, option_map}
use Rattle.tal_tree.specs.Rows.{not-is, and-is, or-is}
use Rattle.tal_tree.specs.declared.expression.Cond.{Cond, Not, size-Cond}
use Rattle.tal_tree.specs.declared.expression.Cond.TheViews.{sized-And, sized-Or}
use Rattle.tal_values.specs.declared.chain.Junction.{Junction}
use Rattle.tal_values.specs.declared.chain.Junction.TheVariants as junction
use Rattle.tal_values.specs.declared.chain.Link.{Link}
use Rattle.tal_values.specs.Chain.{joined, joined_truth, with_links}
use Rattle.tal_values.specs.Value.{Memory, truth_of}
use Rattle.tal_values.proofs.ChainSteps.{linked-push}

pub truth-not : (m : Memory) (inner : Cond) → truth_of m (Not inner) ≡ option_map not (truth_of m inner)
truth-not m inner = ap (truth_of m) (not-is inner)

pub truth-joined : (m : Memory) (junction : Junction) (left right : Cond)
    → truth_of m (joined junction left right) ≡ joined_truth junction (truth_of m left) (truth_of m right)
truth-joined m junction.And left right = ap (truth_of m) (and-is left right)
truth-joined m junction.Or left right = ap (truth_of m) (or-is left right)

-- what the conditions that are left make of a condition of this truth is the whole
pub record Climbs (m : Memory) (left : Option Bool) (links : List Link) (whole : Cond) : Type 0 where
  pub below : Cond
  pub truth : truth_of m below ≡ left
  pub chain : with_links below links ≡ whole

pub climbs_up : (m : Memory) {left : Option Bool} {whole : Cond} {items : List Link} (links : List Link) (link : Link)
    → items ≡ links ++ link ∷ [] → Climbs m left items whole
    → Climbs m (joined_truth link.junction left (truth_of m link.right.now)) links whole
climbs_up m {left} {whole} {items} links link popped so_far = record {
  below = joined link.junction so_far.below link.right.now;
  truth = truth-joined m link.junction so_far.below link.right.now
      ∙ (λ i. joined_truth link.junction (so_far.truth i) (truth_of m link.right.now));
  chain = sym (linked-push so_far.below links link) ∙ ap (with_links so_far.below) (sym popped) ∙ so_far.chain;
}

-- depths
pub left_within : (junction : Junction) (left right : Cond) → size-Cond left < size-Cond (joined junction left right)
left_within junction.And left right = omega (arith, sized-And left right)
left_within junction.Or left right = omega (arith, sized-Or left right)

pub right_within : (junction : Junction) (left right : Cond) → size-Cond right < size-Cond (joined junction left right)
right_within junction.And left right = omega (arith, sized-And left right)
right_within junction.Or left right = omega (arith, sized-Or left right)

pub first_within : (first : Cond) (links : List Link) → size-Cond first ≤ size-Cond (with_links first links)
first_within first [] = omega arith
first_within first (link ∷ links) =
    omega (arith, first_within first links, left_within link.junction (with_links first links) link.right.now)

pub link_within : {m : Memory} {left : Option Bool} {whole : Cond} {items : List Link} (links : List Link) (link : Link)
    → items ≡ links ++ link ∷ [] → Climbs m left items whole → size-Cond link.right.now < size-Cond whole
link_within {m} {left} {whole} {items} links link popped so_far =
    let grown : with_links (joined link.junction so_far.below link.right.now) links ≡ whole =
    sym (linked-push so_far.below links link) ∙ ap (with_links so_far.below) (sym popped) ∙ so_far.chain in
    omega (
      arith,
      ap size-Cond grown,
      first_within (joined link.junction so_far.below link.right.now) links,
      right_within link.junction so_far.below link.right.now,
    )
