-- The replies that a process keeps were sent, and so was each that is told again.
use Rattle.std.proofs.Common.{◌≡◌, ◌≤◌, inl, inr, ℕ, suc, ◌+◌, ◌-◌, ℤ, Bool, true, false, List, [], ◌∷◌, length}
use Rattle.std.proofs.Common.{reverse, Option, Some, None, slice_get, get_or, refl, ap, ◌∙◌, arith}
use Rattle.std.proofs.lemmas.Bool.{le-leb}
use Rattle.std.proofs.lemmas.List.{get_or-reverse, length-drop, length-reverse}
use Rattle.std.proofs.lemmas.Option.{slice_get_within, slice_get-get_or, get_or_from_slice_get}
use Rattle.gd_words.specs.Members.{IsAmong}
use Rattle.gd_words.specs.declared.message.Reply.{Reply}
use Rattle.tal_tree.specs.declared.site.OpenerSpec.{OpenerSpec}
use Rattle.tal_tree.specs.declared.site.ProcessSpec.{ProcessSpec}
use Rattle.tal_tree.specs.declared.site.Site.{Site}
use Rattle.plain_semantics.specs.Openers.{openers_of}
use Rattle.world_semantics.specs.checkpoint_image.specs.declared.receive.OpenerBlock.{OpenerBlock}
use Rattle.world_semantics.specs.checkpoint_image.specs.Receive.{holds, answered}
use Rattle.world_semantics.specs.Core.{Core, Deed}
use Rattle.world_semantics.proofs.KeptReplies.{KeptSent}
use Rattle.awaited_requests.specs.process_histories.specs.Histories.{HasDone}
use Rattle.awaited_requests.specs.process_histories.specs.Words.{answered_to, taken_from, one_if}
use Rattle.awaited_requests.specs.process_histories.proofs.Counts.{taken-count, taken-number}
use Rattle.awaited_requests.specs.process_histories.proofs.Kept.{kept-last}
use Rattle.awaited_requests.specs.letters.specs.Again.{numbered, kept_in, kept_for}

-- which of the words a numbered reply has
record IsNumbered (number place first : ℕ) (kept : List (List ℤ)) (reply : Reply) : Type 0 where
  pub at : ℕ
  pub words : List ℤ
  pub there : slice_get kept at ≡ Some words
  pub same : reply ≡ record { process = number; opener = place; number = at + first; words = words }

numbered-from : (number place first : ℕ) (kept : List (List ℤ)) (reply : Reply)
    → IsAmong reply (numbered number place first kept)
    → IsNumbered number place first kept reply
numbered-from number place first [] reply none = absurd none
numbered-from number place first (words ∷ kept) reply (inl is) =
    let same : 0 + first ≡ first = omega arith in record { at = 0; words = words; there = refl; same = rw same is }
numbered-from number place first (words ∷ kept) reply (inr later) =
    let rest = numbered-from number place (first + 1) kept reply later in
    let same : suc rest.at + first ≡ rest.at + (first + 1) = omega arith in
    record { at = suc rest.at; words = rest.words; there = rest.there; same = rw same rest.same }

-- the place of an item counted from the end
turned : (xs : List (List ℤ)) (i : ℕ) (x : List ℤ) → slice_get xs i ≡ Some x
    → slice_get (reverse xs) (length xs - 1 - i) ≡ Some x
turned xs i x there =
    let within = slice_get_within xs i x there in
    let back : length xs - 1 - (length xs - 1 - i) ≡ i = omega (arith, within) in
    let same = length-reverse xs in
    slice_get-get_or (reverse xs) (length xs - 1 - i) x (omega (arith, within, same))
    ∙ ap Some (get_or-reverse xs (length xs - 1 - i) x (omega (arith, within)) ∙ ap (λ j. get_or xs j x) back
    ∙ get_or_from_slice_get xs i x x there)

module _ {site : Site} {number : ℕ} {spec : ProcessSpec} where
  -- no more replies are kept for an opener than were answered to it
  kept-few : {deeds : List Deed} {core : Core} → HasDone site number spec deeds core
      → (place : ℕ) (opener : OpenerSpec) (block : OpenerBlock)
      → slice_get (openers_of site number) place ≡ Some opener → slice_get core.receive.openers place ≡ Some block
      → length block.kept ≤ answered (holds core.receive place) block
  kept-few {deeds = deeds} {core = core} done place opener block known there =
      let kept = ap length (kept-last done place block there opener known) in
      let cut = length-drop (length (reverse (answered_to place deeds)) - opener.depth)
      (reverse (answered_to place deeds)) in
      let all = length-reverse (answered_to place deeds) in
      by (holds core.receive place) (omega (arith, kept, cut, all)) (taken-number done place block there)
      (taken-count done place)
    where
      by : (held : Bool) → length block.kept ≤ length (answered_to place deeds)
          → block.taken ≡ length (taken_from place deeds)
          → length (taken_from place deeds) ≡ length (answered_to place deeds) + one_if held
          → length block.kept ≤ answered held block
      by true few taken count = omega (arith, few, taken, count)
      by false few taken count = omega (arith, few, taken, count)

  -- the replies that are kept for an opener were sent
  pub kept-sent : {deeds : List Deed} {core : Core} → HasDone site number spec deeds core → (replies : List Reply)
      → KeptSent number replies core.receive
      → (place : ℕ) (opener : OpenerSpec) → slice_get (openers_of site number) place ≡ Some opener → (reply : Reply)
      → IsAmong reply (kept_for number core.receive place) → IsAmong reply replies
  kept-sent {core = core} done replies sent place opener known reply among =
      by (slice_get core.receive.openers place) refl among
    where
      by : (o : Option OpenerBlock) → slice_get core.receive.openers place ≡ o
          → IsAmong reply (kept_in number core.receive place o) → IsAmong reply replies
      by None there none = absurd none
      by (Some block) there among =
          let last : ℕ = answered (holds core.receive place) block in
          let from = numbered-from number place (last + 1 - length block.kept) block.kept reply among in
          let few = kept-few done place opener block known there in
          let within = slice_get_within block.kept from.at from.words from.there in
          let n : ℕ = from.at + (last + 1 - length block.kept) in
          let most : n ≤ last = omega (arith, few, within) in
          let back : last - n ≡ length block.kept - 1 - from.at = omega (arith, few, within) in
          rw from.same
          (sent place block there n from.words (rw (le-leb n last most, back)
          (turned block.kept from.at from.words from.there)))
