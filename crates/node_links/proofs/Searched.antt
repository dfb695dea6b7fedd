-- The search for the oldest link: what is known when some links of the table are left.
use Rattle.std.proofs.Common.{◌≡◌, ◌≢◌, ◌⊎◌, ℕ, ◌<◌, ◌≤◌, Bool, true, false, List, [], ◌∷◌, Option, Some, None, IfSome}
use Rattle.std.proofs.Common.{refl, sym, ap, ◌∙◌, inl, inr, arith, Contains}
use Rattle.slab.specs.Slab.{Slab, entries}
use Rattle.slab.proofs.SlabLemmas.{Contains-cons, Contains-cons_cases, Contains-entries}
use Rattle.node_links.specs.declared.link.Link.{Link}
use Rattle.node_links.specs.declared.link.Side.{Side}
use Rattle.node_links.specs.declared.links.Seen.{Seen}
use Rattle.node_links.specs.Linking.{Table, at, IsTimed, IsOldest, NonePasses}

-- the link seen so far isn't later than this time
abbrev pub NoLater : Option Seen → ℕ → Type 0
NoLater None opened = ⊥
NoLater (Some seen) opened = seen.opened ≤ opened

-- the one seen is open and passes
abbrev pub IsOpen : (Side → Bool) → Table → Seen → Type 0
IsOpen passes table seen =
    (link : Link) × (at table seen.number ≡ Some link) × (passes link.side ≡ true) × (link.opened ≡ seen.opened)

-- the links left are open, the one seen is open and passes, and each that passes is left or no older than the one seen
pub record IsSearched (passes : Side → Bool) (table : Table) (oldest : Option Seen) (left : List (ℕ × Link)) :
    Type 0 where
  pub are_open : (number : ℕ) (link : Link) → Contains left (number, link) → at table number ≡ Some link
  pub is_seen : (seen : Seen) → oldest ≡ Some seen → IsOpen passes table seen
  pub are_met : (number : ℕ) (link : Link) → at table number ≡ Some link → passes link.side ≡ true
      → Contains left (number, link) ⊎ NoLater oldest link.opened

module _ (passes : Side → Bool) (table : Table) where
  pub search-begins : (links : Slab Link) (left : List (ℕ × Link)) → links.slots ≡ table → left ≡ entries links
      → IsSearched passes table None left
  search-begins links left stored all =
      record {
        are_open = λ number link there. ap (λ slots. at slots number) (sym stored)
            ∙ (Contains-entries links number link).0 (rw all at there);
        is_seen = λ seen is. absurd (cc);
        are_met = λ number link found pass. inl
            (rw all ((Contains-entries links number link).1 (ap (λ slots. at slots number) stored ∙ found)));
      }

  -- a link that doesn't pass
  pub search-skips : (oldest : Option Seen) (left rest : List (ℕ × Link)) (number : ℕ) (link : Link)
      → left ≡ (number, link) ∷ rest → passes link.side ≡ false
      → IsSearched passes table oldest left → IsSearched passes table oldest rest
  search-skips oldest left rest number link first fails searched =
      record {
        are_open = λ other later there. searched.are_open other later (rw first (Contains-cons _ _ _ there));
        is_seen = searched.is_seen;
        are_met = λ other later found pass.
            elim (searched.are_met other later found pass) [
              | inl there ↦ elim (Contains-cons_cases _ _ _ (rw first at there)) [
                | inl same ↦ absurd (clash (sym (ap (λ e. passes e.1.side) same ∙ pass) ∙ fails))
                | inr there ↦ inl there
              ]
              | inr met ↦ inr met
            ];
      }
    where
      clash : true ≡ false → ⊥
      clash is = cc

  -- a link that passes: the older one of it and the one seen
  pub search-takes : (oldest : Option Seen) (left rest : List (ℕ × Link)) (number : ℕ) (link : Link) (older : Seen)
      → left ≡ (number, link) ∷ rest → passes link.side ≡ true
      → (oldest ≡ Some older) ⊎ ((older.number ≡ number) × (older.opened ≡ link.opened)) → older.opened ≤ link.opened
      → IfSome oldest (λ seen. older.opened ≤ seen.opened)
      → IsSearched passes table oldest left → IsSearched passes table (Some older) rest
  search-takes oldest left rest number link older first passed which no_later before searched =
      record {
        are_open = λ other later there. searched.are_open other later (rw first (Contains-cons _ _ _ there));
        is_seen = λ seen is.
            let stands : IsOpen passes table older = elim which [
              | inl same ↦ searched.is_seen older same
              | inr here ↦ (
                link,
                ap (at table) here.0
                    ∙ searched.are_open number link (rw first (0, omega arith, refl)),
                passed,
                sym here.1,
              )
            ] in
            let one : older ≡ seen = cc in rw one at stands;
        are_met = λ other later found pass.
            elim (searched.are_met other later found pass) [
              | inl there ↦ elim (Contains-cons_cases _ _ _ (rw first at there)) [
                | inl same ↦ inr (rw (ap (λ e. e.1.opened) same) at no_later)
                | inr there ↦ inl there
              ]
              | inr met ↦ inr (still oldest later.opened before met)
            ];
      }
    where
      still : (oldest : Option Seen) (opened : ℕ) → IfSome oldest (λ seen. older.opened ≤ seen.opened)
          → NoLater oldest opened → older.opened ≤ opened
      still None opened before met = absurd met
      still (Some seen) opened before met = omega (arith, before, met)

  pub search-finds : (next : ℕ) (seen : Seen) (left : List (ℕ × Link)) → IsTimed table next → left ≡ []
      → IsSearched passes table (Some seen) left → IsOldest passes table seen.number
  search-finds next seen left timed done searched =
      let stands = searched.is_seen seen refl in
      record {
        link = stands.0;
        is_open = stands.1;
        does_pass = stands.2;
        is_first = λ other later differs found pass.
            elim (searched.are_met other later found pass) [
              | inl there ↦ absurd (none_left left other later done there)
              | inr met ↦ strictly stands.0.opened later.opened (omega (arith, met, stands.3))
                  (λ same. differs (timed.are_apart other seen.number later stands.0 found stands.1 (sym same)))
            ];
      }
    where
      none_left : (left : List (ℕ × Link)) (other : ℕ) (later : Link) → left ≡ [] → Contains left (other, later) → ⊥
      none_left left other later done there = omega (arith, (rw done at there).1)

      strictly : (a b : ℕ) → a ≤ b → a ≢ b → a < b
      strictly a b most differs = omega (arith, most, differs)

  pub search-fails : (left : List (ℕ × Link)) → left ≡ [] → IsSearched passes table None left → NonePasses passes table
  search-fails left done searched number link found = by_cases (passes link.side) refl
    where
      by_cases : (passed : Bool) → passes link.side ≡ passed → passes link.side ≡ false
      by_cases false is = is
      by_cases true is = elim (searched.are_met number link found is) [
        | inl there ↦ absurd (omega (arith, (rw done at there).1))
        | inr met ↦ absurd met
      ]
