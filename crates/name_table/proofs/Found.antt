-- The map finds a name by its text.
use Rattle.std.proofs.Common.{◌≡◌, ℕ, ◌+◌, ◌-◌, nat_eq, nat_lt, Bool, true, false, cond, not, ◌&&◌, ◌||◌, List, [], ◌∷◌}
use Rattle.std.proofs.Common.{length, take, replicate, position, Option, Some, None, is_some, refl, sym, ap₂, ◌∙◌}
use Rattle.std.proofs.Common.{subst, true≢false}
use Rattle.std.proofs.Math.Seq.{take-append_seam}
use Rattle.std.proofs.lemmas.Bool.{eqb-true}
use Rattle.std.proofs.lemmas.List.{length-map}
use Rattle.std.specs.Cmp.{nat_eq_equiv}
use Rattle.std.specs.Cmp.Lexicographic.{pointwise, bytes_decides, nat_list_eq_equiv}
use Rattle.std.specs.List.{position_or_len}
use Rattle.std.specs.Map.{keys_of, lookup}
use Rattle.std.specs.Str.{bytes_eq}
use Rattle.gd_words.specs.Spelling.{text_with_zeros}
use Rattle.gd_words.specs.contracts.name.NamePartialEq.TheImpl.{ghosts}
use Rattle.name_table.specs.Entries.{Named, has_name, place_of}

-- what stands before the padding
unpadded : (x : List ℕ) → take (length x) (text_with_zeros 6 x) ≡ x
unpadded x = take-append_seam x (replicate (6 - length x) 0)

-- names that are kept alike have one text
one_text : (x y : List ℕ) → text_with_zeros 6 x ≡ text_with_zeros 6 y → length x ≡ length y → x ≡ y
one_text x y bytes len = sym (unpadded x) ∙ ap₂ take len bytes ∙ unpadded y

-- two names are the same where their texts are
pub same_name : (x y : List ℕ) → ghosts.eq x y ≡ bytes_eq y x
same_name x y =
    by (pointwise nat_eq (text_with_zeros 6 x) (text_with_zeros 6 y)) (nat_eq (length x) (length y)) (bytes_eq y x)
    refl refl refl
  where
    by : (bytes len texts : Bool) → pointwise nat_eq (text_with_zeros 6 x) (text_with_zeros 6 y) ≡ bytes
        → nat_eq (length x) (length y) ≡ len → bytes_eq y x ≡ texts → (bytes && len) ≡ texts
    by true true true b l t = refl
    by true true false b l t =
        let one : x ≡ y =
        one_text x y ((bytes_decides (text_with_zeros 6 x) (text_with_zeros 6 y)).0 b)
        (eqb-true (length x) (length y) l) in
        absurd (true≢false (sym ((bytes_decides y x).1 (sym one)) ∙ t))
    by true false false b l t = refl
    by false len false b l t = refl
    by true false true b l t = absurd (true≢false
        (sym (subst (λ z. nat_eq (length x) (length z) ≡ true) (sym ((bytes_decides y x).0 t))
        (nat_eq_equiv.refl (length x))) ∙ l))
    by false len true b l t = absurd (true≢false
        (sym (subst (λ z. pointwise nat_eq (text_with_zeros 6 x) (text_with_zeros 6 z) ≡ true)
        (sym ((bytes_decides y x).0 t))
        (nat_list_eq_equiv.refl (text_with_zeros 6 x))) ∙ b))

module _ {T : Type 0} (name : List ℕ) where
  -- as many names stand before it
  as_many_before : (entries : List (Named T))
      → position_or_len (ghosts.eq name) (keys_of entries) ≡ position_or_len (λ entry. bytes_eq entry.0 name) entries
  as_many_before [] = refl
  as_many_before (entry ∷ rest) = λ i. cond (not (same_name name entry.0 i)) (1 + as_many_before rest i) 0

  -- where the map finds a name it stands
  pub place-found : (entries : List (Named T)) → position (ghosts.eq name) (keys_of entries) ≡ place_of entries name
  place-found entries =
      ap₂ (λ place many. cond (nat_lt place many) (Some place) None) (as_many_before entries)
      (length-map entries (λ entry. entry.0))

  -- the map finds a name exactly where it is there
  pub found-there : (entries : List (Named T)) → is_some (lookup (ghosts.eq name) entries) ≡ has_name entries name
  found-there [] = refl
  found-there (entry ∷ rest) =
      by (ghosts.eq name entry.0) (bytes_eq entry.0 name) (same_name name entry.0) (found-there rest)
    where
      by : (a b : Bool) → a ≡ b → is_some (lookup (ghosts.eq name) rest) ≡ has_name rest name
          → is_some (cond a (Some entry.1) (lookup (ghosts.eq name) rest)) ≡ (b || has_name rest name)
      by true true e later = refl
      by false false e later = later
      by true false e later = absurd (true≢false e)
      by false true e later = absurd (true≢false (sym e))

  -- a new name is not found
  pub not_found : (entries : List (Named T)) → has_name entries name ≡ false → lookup (ghosts.eq name) entries ≡ None
  not_found entries new = by (lookup (ghosts.eq name) entries) (found-there entries ∙ new)
    where
      by : (found : Option T) → is_some found ≡ false → found ≡ None
      by None e = refl
      by (Some there) e = absurd (true≢false e)
