-- A link that is changed stays as old as it was, so the table stays timed.
use Rattle.std.proofs.Common.{◌≡◌, ℕ, ◌<◌, length, set, Some, None, refl, sym, ap, ◌∙◌, inl, inr, arith}
use Rattle.std.proofs.lemmas.Bool.{cases_eq}
use Rattle.std.proofs.lemmas.List.{get_or-set_same, get_or-set_other, get_or_past}
use Rattle.node_links.specs.declared.link.Link.{Link}
use Rattle.node_links.specs.Linking.{Table, at, IsTimed}

within : (table : Table) (number : ℕ) (link : Link) → at table number ≡ Some link → number < length table
within table number link found = grind (arith, get_or_past)

-- the link that stood under a number before
origin : (table : Table) (number : ℕ) (old new : Link) → at table number ≡ Some old → new.opened ≡ old.opened
    → (other : ℕ) (link : Link)
    → at (set table number (Some new)) other ≡ Some link
    → (before : Link) × (at table other ≡ Some before) × (link.opened ≡ before.opened)
origin table number old new stood same other link found =
    elim (cases_eq other number) [
      | inl here ↦
          let put = sym (get_or-set_same table number (Some new) None (within table number old stood))
          ∙ sym (ap (at (set table number (Some new))) here) ∙ found in
          let one : new ≡ link = cc in
          (old, ap (at table) here ∙ stood, sym (ap (λ l. l.opened) one) ∙ same)
      | inr differs ↦ (link, sym (get_or-set_other table number other (Some new) None differs) ∙ found, refl)
    ]

pub IsTimed-set : (table : Table) (next number : ℕ) (old new : Link) → at table number ≡ Some old
    → new.opened ≡ old.opened → IsTimed table next → IsTimed (set table number (Some new)) next
IsTimed-set table next number old new stood same timed =
    record {
      are_past = λ other link found.
          let before = origin table number old new stood same other link found in
          rw before.2 (timed.are_past other before.0 before.1);
      are_apart = λ other third link second found met when.
          let before = origin table number old new stood same other link found in
          let after = origin table number old new stood same third second met in
          timed.are_apart other third before.0 after.0 before.1 after.1 (sym before.2 ∙ when ∙ after.2);
    }
