-- Which number of a request stands next to a receive table.
use Rattle.std.proofs.Common.{◌≡◌, ◌<◌, ◌+◌, ◌==◌, ℕ, ℤ, Bool, true, false, if◌then◌else◌, List, Option, Some, None}
use Rattle.std.proofs.Common.{length, refl, ap, sym, ◌∙◌, slice_get}
use Rattle.std.proofs.lemmas.Bool.{eqb-true}
use Rattle.std.proofs.lemmas.Option.{slice_get_within}
use Rattle.checkpoint_image.specs.Receive.{holds, kept_or_old, standing_at, standing_by}
use Rattle.checkpoint_image.specs.declared.receive.OpenerBlock.{OpenerBlock}
use Rattle.checkpoint_image.specs.declared.receive.ReceiveBlock.{ReceiveBlock}
use Rattle.checkpoint_image.specs.declared.receive.RequestStanding.TheVariants.{Next, InHand, Ahead}
use Rattle.computed_changes.specs.sync_ids.specs.Tables.{last_taken, taken_in}

by-tests : (same ahead held : Bool) (kept : Option (List ℤ))
    → (if same then Next else if ahead then Ahead else if held then InHand else kept_or_old kept) ≡ Next → same ≡ true
by-tests true ahead held kept e = refl
by-tests false true held kept e = absurd (cc)
by-tests false false true kept e = absurd (cc)
by-tests false false false None e = absurd (cc)
by-tests false false false (Some words) e = absurd (cc)

-- a request that stands next is of an opener that is there, and has the number after the one last taken
pub next-there : (table : ReceiveBlock) (opener number : ℕ) → standing_at table opener number ≡ Next
    → (opener < length table.openers) × (number ≡ last_taken table opener + 1)
next-there table opener number next = by (slice_get table.openers opener) refl next
  where
    by : (found : Option OpenerBlock) → slice_get table.openers opener ≡ found
        → standing_by (holds table opener) found number ≡ Next
        → (opener < length table.openers) × (number ≡ taken_in (slice_get table.openers opener) + 1)
    by None is e = absurd (cc)
    by (Some block) is e = (
      slice_get_within table.openers opener block is,
      eqb-true number (block.taken + 1) (by-tests (number == block.taken + 1) _ _ _ e)
          ∙ ap (λ (o : Option OpenerBlock). taken_in o + 1) (sym is),
    )
