-- Requests that stand next at a receive table, or are in hand there: they aren't answered yet.
use Rattle.std.proofs.Common.{◌≡◌, ◌⊎◌, inl, inr, ℕ, ◌+◌, ◌<◌, ◌==◌, ◌&&◌, ℤ, Bool, true, false, if◌then◌else◌, nat_lt}
use Rattle.std.proofs.Common.{List, [], ◌∷◌, length, Option, Some, None, slice_get, refl, ap, sym, ◌∙◌, subst, arith}
use Rattle.std.proofs.lemmas.Bool.{eqb-true}
use Rattle.tal_tree.specs.declared.site.Site.{Site}
use Rattle.tal_tree.specs.declared.site.ProcessSpec.{ProcessSpec}
use Rattle.plain_semantics.specs.declared.slot.Opener.{Opener}
use Rattle.checkpoint_image.specs.declared.receive.OpenerBlock.{OpenerBlock}
use Rattle.checkpoint_image.specs.declared.receive.RequestStanding.{RequestStanding}
use Rattle.checkpoint_image.specs.declared.receive.RequestStanding.TheVariants.{Next, Ahead, InHand}
use Rattle.checkpoint_image.specs.Receive.{holds, answered as last_answered, reply_kept, kept_or_old, standing_in}
use Rattle.checkpoint_image.specs.Receive.{standing_by, standing_at, request_standing, Chosen, choice_among, chosen_by}
use Rattle.checkpoint_image.specs.Receive.{chosen_after}
use Rattle.checkpoint_image.specs.Receive.{is_next}
use Rattle.world_semantics.specs.Core.{Core, Deed}
use Rattle.process_histories.specs.Histories.{HasDone}
use Rattle.process_histories.specs.Words.{taken_from, answered_to, one_if}
use Rattle.process_histories.proofs.Counts.{taken-count, taken-number}
use Rattle.gd_words.specs.Members.{IsAmong}
use Rattle.gd_words.specs.declared.message.Request.{Request}
use Rattle.checkpoint_image.specs.declared.receive.ReceiveBlock.{ReceiveBlock}

-- what stands next or in hand wasn't answered
not-answered-in : (held : Bool) (block : OpenerBlock) (n : ℕ) (s : RequestStanding) → standing_in held block n ≡ s
    → (s ≡ Next) ⊎ (s ≡ InHand)
    → (n ≡ block.taken + 1) ⊎ ((held ≡ true) × (n ≡ block.taken))
not-answered-in held block n s is = by (n == block.taken + 1) refl (nat_lt (block.taken + 1) n) held (n == block.taken)
    refl (reply_kept (last_answered held block) block.kept n) is
  where
    by : (same : Bool) → (n == block.taken + 1) ≡ same → (ahead hand last : Bool) → (n == block.taken) ≡ last
        → (kept : Option (List ℤ))
        → (if same then Next else if ahead then Ahead else if hand && last then InHand else kept_or_old kept) ≡ s
        → (s ≡ Next) ⊎ (s ≡ InHand)
        → (n ≡ block.taken + 1) ⊎ ((hand ≡ true) × (n ≡ block.taken))
    by true same ahead hand last at kept is still = inl (eqb-true n (block.taken + 1) same)
    by false same true hand last at kept is still = absurd (elim still [ inl e ↦ (cc) | inr e ↦ (cc) ])
    by false same false true true at kept is still = inr (refl, eqb-true n block.taken at)
    by false same false true false at None is still = absurd (elim still [ inl e ↦ (cc) | inr e ↦ (cc) ])
    by false same false true false at (Some words) is still = absurd (elim still [ inl e ↦ (cc) | inr e ↦ (cc) ])
    by false same false false last at None is still = absurd (elim still [ inl e ↦ (cc) | inr e ↦ (cc) ])
    by false same false false last at (Some words) is still = absurd (elim still [ inl e ↦ (cc) | inr e ↦ (cc) ])

pub not-answered : {site : Site} {spec : ProcessSpec} {deeds : List Deed} {core : Core} (opener : Opener) (n : ℕ)
    → HasDone site opener.server spec deeds core
    → (standing_at core.receive opener.place n ≡ Next) ⊎ (standing_at core.receive opener.place n ≡ InHand)
    → length (answered_to opener.place deeds) < n
not-answered {deeds = deeds} {core = core} opener n done still =
    by (slice_get core.receive.openers opener.place) refl still
  where
    counts : length (taken_from opener.place deeds)
        ≡ length (answered_to opener.place deeds) + one_if (holds core.receive opener.place)
    counts = taken-count done opener.place

    by : (block : Option OpenerBlock) → slice_get core.receive.openers opener.place ≡ block
        → (standing_by (holds core.receive opener.place) block n ≡ Next)
        ⊎ (standing_by (holds core.receive opener.place) block n ≡ InHand)
        → length (answered_to opener.place deeds) < n
    by None placed still = absurd (elim still [ inl e ↦ (cc) | inr e ↦ (cc) ])
    by (Some block) placed still =
        let number = taken-number done opener.place block placed in
        let count = counts in
        elim (not-answered-in (holds core.receive opener.place) block n
        (standing_in (holds core.receive opener.place) block n) refl still) [
          | inl next ↦ omega (arith, next, number, count)
          | inr (held, last) ↦ (let one : one_if (holds core.receive opener.place) ≡ 1 = ap one_if held in
              omega (arith, last, number, count, one))
        ]

-- where nothing is in hand, no request stands so
pub none-in-hand : (block : Option OpenerBlock) (n : ℕ) → standing_by false block n ≡ InHand → ⊥
none-in-hand None n is = cc
none-in-hand (Some block) n is =
    by (n == block.taken + 1) (nat_lt (block.taken + 1) n) (reply_kept (last_answered false block) block.kept n) is
  where
    by : (same ahead : Bool) (kept : Option (List ℤ))
        → (if same then Next else if ahead then Ahead else kept_or_old kept) ≡ InHand → ⊥
    by true ahead kept is = cc
    by false true kept is = cc
    by false false None is = cc
    by false false (Some words) is = cc

-- where a request waits that stands next, one is taken
pub chosen-there : (table : ReceiveBlock) (waiting : List Request) (request : Request) → IsAmong request waiting
    → request_standing table request ≡ Next
    → (found : Chosen) × (choice_among table waiting ≡ Some found)
chosen-there table [] request among next = absurd among
chosen-there table (first ∷ rest) request among next =
    by (is_next (request_standing table first)) refl (choice_among table rest) refl among
    (λ later. chosen-there table rest request later next)
  where
    by : (test : Bool) → is_next (request_standing table first) ≡ test → (later : Option Chosen)
        → choice_among table rest ≡ later
        → (request ≡ first) ⊎ IsAmong request rest
        → (IsAmong request rest → (found : Chosen) × (choice_among table rest ≡ Some found))
        → (found : Chosen) × (chosen_by test first rest later ≡ Some found)
    by true is later found among deeper = (record { request = first; rest = rest }, refl)
    by false is (Some later) found among deeper = (chosen_after first later, refl)
    by false is None found (inl same) deeper =
        let here : is_next (request_standing table first) ≡ true =
        subst (λ r. is_next (request_standing table r) ≡ true) same (rw next refl) in absurd (cc)
    by false is None found (inr among) deeper = let some = deeper among in absurd (let none = sym found ∙ some.1 in cc)
