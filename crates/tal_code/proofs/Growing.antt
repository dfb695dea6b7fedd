-- Code grows by the operators of a chain, one after the other.
use Rattle.std.proofs.Common.{◌≡◌, ◌+◌, ◌<◌, ◌≤◌, List, [], ◌∷◌, ◌++◌, length, refl, ap, sym, ◌∙◌, arith}
use Rattle.tal_tree.specs.declared.expression.Expr.{Expr, Two, size-Expr}
use Rattle.tal_tree.specs.declared.expression.Cond.{Cond, size-Cond}
use Rattle.tal_values.specs.declared.chain.Tail.{Tail}
use Rattle.tal_values.specs.declared.chain.Link.{Link}
use Rattle.tal_values.specs.declared.chain.Junction.{Junction}
use Rattle.tal_values.specs.declared.chain.Junction.TheVariants as junction
use Rattle.tal_values.specs.Chain.{with_tails, joined, with_links}
use Rattle.tal_values.proofs.ChainSteps.{chained-push, linked-push}
use Rattle.tal_values.proofs.ValueSteps as value
use Rattle.tal_values.proofs.TruthSteps as truth
use Rattle.tal_code.specs.Parts.{PartStack, Valued, Tested, with_part, two_part, joined_part}
use Rattle.tal_code.specs.Waiting.{waiting_of, waiting_for, waiting_of_test}
use Rattle.tal_code.proofs.Waits.{first_waits, first_test_waits, waiting-two, waiting-joined}

-- the code so far is that of an expression, of which the operators that are left make the whole
pub record Grows (old code : PartStack) (tails : List Tail) (whole : Expr) : Type 0 where
  pub below : Expr
  pub code_is : code ≡ with_part (Valued below) old
  pub chain : with_tails below tails ≡ whole

-- the next operator taken from those that are left
next-chain : {old code : PartStack} {whole : Expr} {items : List Tail} (tails : List Tail) (tail : Tail)
    → items ≡ tails ++ tail ∷ []
    → (so_far : Grows old code items whole) → with_tails (Two tail.op so_far.below tail.right.now) tails ≡ whole
next-chain tails tail popped so_far =
    sym (chained-push so_far.below tails tail) ∙ ap (with_tails so_far.below) (sym popped) ∙ so_far.chain

pub grows-on : {old code new : PartStack} {whole : Expr} {items : List Tail} (tails : List Tail) (tail : Tail)
    → items ≡ tails ++ tail ∷ [] → new ≡ record code { top = two_part tail.op code.top (Valued tail.right.now) }
    → Grows old code items whole → Grows old new tails whole
grows-on {old} {code} {new} {whole} {items} tails tail popped put so_far = record {
  below = Two tail.op so_far.below tail.right.now;
  code_is = put ∙ ap (λ (c : PartStack). record c { top = two_part tail.op c.top (Valued tail.right.now) })
      so_far.code_is;
  chain = next-chain tails tail popped so_far;
}

pub tail-within : {old code : PartStack} {whole : Expr} {items : List Tail} (tails : List Tail) (tail : Tail)
    → items ≡ tails ++ tail ∷ [] → Grows old code items whole → size-Expr tail.right.now < size-Expr whole
tail-within {old} {code} {whole} {items} tails tail popped so_far =
    omega (
      arith,
      ap size-Expr (next-chain tails tail popped so_far),
      value.first_within (Two tail.op so_far.below tail.right.now) tails,
      value.right_within tail.op so_far.below tail.right.now,
    )

-- for the right side of the next operator no more wait than for the whole
pub tail-waits : {old code : PartStack} {whole : Expr} {items : List Tail} (tails : List Tail) (tail : Tail)
    → items ≡ tails ++ tail ∷ [] → length old.below + waiting_of whole < 80 → Grows old code items whole
    → length code.below + waiting_for tail.right.now ≤ 80
tail-waits {old} {code} {whole} {items} tails tail popped low so_far =
    omega (
      arith,
      low,
      ap (λ (c : PartStack). length c.below) so_far.code_is,
      ap waiting_of (next-chain tails tail popped so_far),
      first_waits (Two tail.op so_far.below tail.right.now) tails,
      waiting-two tail.op so_far.below tail.right.now,
    )

-- the same for conditions
pub record Joins (old code : PartStack) (links : List Link) (whole : Cond) : Type 0 where
  pub below : Cond
  pub code_is : code ≡ with_part (Tested below) old
  pub chain : with_links below links ≡ whole

joined-part : (j : Junction) (left right : Cond)
    → joined_part j (Tested left) (Tested right) ≡ Tested (joined j left right)
joined-part junction.And left right = refl
joined-part junction.Or left right = refl

next-link : {old code : PartStack} {whole : Cond} {items : List Link} (links : List Link) (link : Link)
    → items ≡ links ++ link ∷ []
    → (so_far : Joins old code items whole)
    → with_links (joined link.junction so_far.below link.right.now) links ≡ whole
next-link links link popped so_far =
    sym (linked-push so_far.below links link) ∙ ap (with_links so_far.below) (sym popped) ∙ so_far.chain

pub joins-on : {old code new : PartStack} {whole : Cond} {items : List Link} (links : List Link) (link : Link)
    → items ≡ links ++ link ∷ [] → new ≡ record code
    { top = joined_part link.junction code.top (Tested link.right.now) }
    → Joins old code items whole → Joins old new links whole
joins-on {old} {code} {new} {whole} {items} links link popped put so_far = record {
  below = joined link.junction so_far.below link.right.now;
  code_is = put ∙ ap (λ (c : PartStack). record c { top = joined_part link.junction c.top (Tested link.right.now) })
      so_far.code_is
      ∙ ap (λ part. with_part part old) (joined-part link.junction so_far.below link.right.now);
  chain = next-link links link popped so_far;
}

pub link-within : {old code : PartStack} {whole : Cond} {items : List Link} (links : List Link) (link : Link)
    → items ≡ links ++ link ∷ [] → Joins old code items whole → size-Cond link.right.now < size-Cond whole
link-within {old} {code} {whole} {items} links link popped so_far =
    omega (
      arith,
      ap size-Cond (next-link links link popped so_far),
      truth.first_within (joined link.junction so_far.below link.right.now) links,
      truth.right_within link.junction so_far.below link.right.now,
    )

pub link-waits : {old code : PartStack} {whole : Cond} {items : List Link} (links : List Link) (link : Link)
    → items ≡ links ++ link ∷ [] → length old.below + waiting_of_test whole < 80 → Joins old code items whole
    → length code.below + (waiting_of_test link.right.now + 1) ≤ 80
link-waits {old} {code} {whole} {items} links link popped low so_far =
    omega (
      arith,
      low,
      ap (λ (c : PartStack). length c.below) so_far.code_is,
      ap waiting_of_test (next-link links link popped so_far),
      first_test_waits (joined link.junction so_far.below link.right.now) links,
      waiting-joined link.junction so_far.below link.right.now,
    )
