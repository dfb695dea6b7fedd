-- The order of identifiers: by their first eight signs, which are compared as one number, and then by their texts.
use Rattle.std.specs.Prelude.{◌≡◌, ℕ, nat_eq, Bool, true, false, ◌&&◌, List}
use Rattle.std.specs.declared.cmp.Ordering.{Ordering}
use Rattle.std.specs.Ordering.{nat_cmp, ordering_then, is_eq}
use Rattle.std.specs.Int.{from_be_bytes, w64}
use Rattle.std.specs.Cmp.{IsTotalOrder, on_total, nat_cmp_total, nat_eq_equiv, then_total, both_tied, unsigned_ties}
use Rattle.std.specs.Cmp.Lexicographic.{pointwise, slice_cmp, nat_list_cmp_total, texts_ties, bytes_decides}
use Rattle.std.proofs.Common.{ap, sym, subst, ◌∙◌, refl}
use Rattle.gd_words.specs.Spelling.{text_with_zeros}

-- the first eight signs as one number, with zeros after the last sign
abbrev pub front : List ℕ → ℕ
front text = from_be_bytes w64 (text_with_zeros 31 text)

abbrev pub ident_cmp : List ℕ → List ℕ → Ordering
ident_cmp a b = ordering_then (nat_cmp (front a) (front b)) (slice_cmp nat_cmp a b)

pub ident_total : IsTotalOrder ident_cmp
ident_total = then_total (on_total front nat_cmp_total) nat_list_cmp_total

and_false : (x : Bool) → (x && false) ≡ false
and_false true = refl
and_false false = refl

-- equal texts have equal fronts
front_too : (a b : List ℕ) → pointwise nat_eq a b ≡ (nat_eq (front a) (front b) && pointwise nat_eq a b)
front_too a b = by (pointwise nat_eq a b) refl
  where
    by : (same : Bool) → pointwise nat_eq a b ≡ same → same ≡ (nat_eq (front a) (front b) && same)
    by true e =
        let fronts : front a ≡ front b = ap front ((bytes_decides a b).0 e) in
        ap (λ x. x && true) (sym (subst (λ n. nat_eq (front a) n ≡ true) fronts (nat_eq_equiv.refl (front a))))
    by false e = sym (and_false (nat_eq (front a) (front b)))

pub ident_ties : (a b : List ℕ) → pointwise nat_eq a b ≡ is_eq (ident_cmp a b)
ident_ties a b =
    front_too a b
    ∙ both_tied (nat_eq (front a) (front b)) (pointwise nat_eq a b) (nat_cmp (front a) (front b))
    (slice_cmp nat_cmp a b)
    (unsigned_ties (front a) (front b)) (texts_ties a b)
