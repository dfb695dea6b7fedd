-- Lists whose elements belong together, one after another.
use Rattle.std.proofs.Common.{◌≡◌, ℕ, ◌<◌, zero, suc, List, [], ◌∷◌, ◌++◌, length, get_or, sym, ap, ◌∙◌, arith, subst}
use Rattle.std.proofs.Common.{append_assoc, append-nil}
use Rattle.deck_reader.specs.Decks.{EachWith}

pub each_more : {X Y : Type 0} (R : X → Y → Type 0) (xs : List X) (ys : List Y) (x : X) (y : Y) → EachWith R xs ys
    → R x y → EachWith R (xs ++ x ∷ []) (ys ++ y ∷ [])
each_more R [] [] x y each one = (one, tt)
each_more R (a ∷ xs) (b ∷ ys) x y each one = (each.0, each_more R xs ys x y each.1 one)
each_more R [] (b ∷ ys) x y each one = absurd each
each_more R (a ∷ xs) [] x y each one = absurd each

-- each x has its y
pub each_at : {X Y : Type 0} (R : X → Y → Type 0) (xs : List X) (ys : List Y) (k : ℕ) (d : X) → EachWith R xs ys
    → k < length xs → (y : Y) × R (get_or xs k d) y
each_at R [] ys k d each within = absurd (omega arith)
each_at R (x ∷ xs) [] k d each within = absurd each
each_at R (x ∷ xs) (y ∷ ys) zero d each within = (y, each.0)
each_at R (x ∷ xs) (y ∷ ys) (suc k) d each within = each_at R xs ys k d each.1 (omega arith)

-- of all xs some are done, each with its y, and these are left
pub record IsDoneTo {X Y : Type 0} (R : X → Y → Type 0) (all rest : List X) (ys : List Y) : Type 0 where
  pub front : List X
  pub whole : all ≡ front ++ rest
  pub each : EachWith R front ys

unfoldable pub none_done : {X Y : Type 0} (R : X → Y → Type 0) (all rest : List X) → rest ≡ all → IsDoneTo R all rest []
none_done R all rest e = record { front = []; whole = sym e; each = tt }

unfoldable pub one_done : {X Y : Type 0} (R : X → Y → Type 0) (all rest later : List X) (x : X) (ys : List Y) (y : Y)
    → IsDoneTo R all rest ys → rest ≡ x ∷ later → R x y → IsDoneTo R all later (ys ++ y ∷ [])
one_done R all rest later x ys y before e one = record {
  front = before.front ++ x ∷ [];
  whole = before.whole ∙ ap (λ xs. before.front ++ xs) e ∙ sym (append_assoc before.front (x ∷ []) later);
  each = each_more R before.front ys x y before.each one;
}

pub all_done : {X Y : Type 0} (R : X → Y → Type 0) (all rest : List X) (ys : List Y) → IsDoneTo R all rest ys
    → rest ≡ [] → EachWith R all ys
all_done R all rest ys before e =
    let P : List _ → Type 0 = λ xs. EachWith R xs ys in
    subst P (sym (before.whole ∙ ap (λ xs. before.front ++ xs) e ∙ append-nil before.front)) before.each
