-- The replies that are kept are the last ones that were answered.
use Rattle.std.proofs.Common.{◌≡◌, ◌-◌, ℕ, ◌+◌, List, [], ◌∷◌, ◌++◌, length, drop, reverse, Some, slice_get, ap, sym}
use Rattle.std.proofs.Common.{◌∙◌, arith}
use Rattle.std.proofs.Math.Seq.{drop-nil}
use Rattle.std.proofs.lemmas.List.{drop-append-le, drop-drop, length-append, length-drop, reverse-append}
use Rattle.tal_tree.specs.declared.site.OpenerSpec.{OpenerSpec}
use Rattle.tal_tree.specs.declared.site.ProcessSpec.{ProcessSpec}
use Rattle.tal_tree.specs.declared.site.Site.{Site}
use Rattle.world_semantics.specs.plain_semantics.specs.Openers.{openers_of}
use Rattle.world_semantics.specs.checkpoint_image.specs.declared.receive.OpenerBlock.{OpenerBlock}
use Rattle.world_semantics.specs.checkpoint_image.specs.Receive.{last_ones}
use Rattle.world_semantics.specs.Core.{Core, Deed, Answered, goes, checkpoints, takes, asks, gets, answers, acts}
use Rattle.world_semantics.proofs.Lists.{some-same, mapped}
use Rattle.process_histories.specs.Histories.{HasDone, nothing_done, one_more}
use Rattle.process_histories.specs.Words.{answered_to}
use Rattle.process_histories.proofs.Counts.{if-same, if-other}
use Rattle.process_histories.proofs.Places.{set-one}

-- the last ones of what was kept and one more are the last ones of all and one more
last-again : {A : Type 0} (n : ℕ) (xs : List A) (x : A)
    → last_ones n (last_ones n xs ++ x ∷ []) ≡ last_ones n (xs ++ x ∷ [])
last-again n xs x =
    let gone : ℕ = length xs - n in
    let inner : drop gone xs ++ x ∷ [] ≡ drop gone (xs ++ x ∷ []) =
    sym (drop-append-le gone xs (x ∷ []) (omega arith)) in
    let kept : length (drop gone xs ++ x ∷ []) ≡ length xs - gone + 1 =
    length-append (drop gone xs) (x ∷ []) ∙ ap (λ k. k + 1) (length-drop gone xs) in
    let all : length (xs ++ x ∷ []) ≡ length xs + 1 = length-append xs (x ∷ []) in
    let more : ℕ = length (drop gone xs ++ x ∷ []) - n in
    let count : gone + more ≡ length (xs ++ x ∷ []) - n = omega (arith, kept, all) in
    ap (drop more) inner ∙ drop-drop more gone (xs ++ x ∷ []) ∙ ap (λ k. drop k (xs ++ x ∷ [])) count

-- what is kept for an opener is the last of what was answered to it, as much as its depth
abbrev AreLast : List OpenerSpec → List Deed → ℕ → OpenerBlock → Type 0
AreLast openers deeds place block =
    (opener : OpenerSpec) → slice_get openers place ≡ Some opener
    → block.kept ≡ last_ones opener.depth (reverse (answered_to place deeds))

module _ {site : Site} {number : ℕ} {spec : ProcessSpec} where
  pub kept-last : {deeds : List Deed} {core : Core} → HasDone site number spec deeds core
      → (place : ℕ) (block : OpenerBlock)
      → slice_get core.receive.openers place ≡ Some block → AreLast (openers_of site number) deeds place block
  kept-last nothing_done place block there = λ opener known.
      let first = mapped (λ (opener : OpenerSpec). record { taken = 0; kept = [] }) (openers_of site number) place
      block there in
      ap (λ (b : OpenerBlock). b.kept) first.2 ∙ sym (drop-nil (0 - opener.depth))
  kept-last (one_more done (goes at)) place block there = kept-last done place block there
  kept-last (one_more done (checkpoints at)) place block there = kept-last done place block there
  kept-last (one_more {deeds = deeds} {before = core} done (takes {place = one} old at known)) place block there =
      set-one (λ j z. AreLast (openers_of site number) deeds j z) core.receive.openers one
      (record old { taken = old.taken + 1 })
      (λ j z apart stood. kept-last done j z stood) (λ _ _. kept-last done one old known) place block there
  kept-last (one_more done (asks at file words)) place block there = kept-last done place block there
  kept-last (one_more done (gets at file)) place block there = kept-last done place block there
  kept-last (one_more {deeds = deeds} {before = core} done
      (answers {place = one} {words = words} opener old at hand known stood said)) place block there =
      set-one (λ j z. AreLast (openers_of site number) (Answered one words ∷ deeds) j z) core.receive.openers one
      (record old { kept = last_ones opener.depth (old.kept ++ words ∷ []) })
      (λ j z apart stands other is. rw (if-other one j words apart) (kept-last done j z stands other is))
      (λ _ _ other is.
      let same : opener ≡ other = some-same (sym known ∙ is) in
      let before = kept-last done one old stood opener known in
      let turned = reverse-append (words ∷ []) (answered_to one deeds) in
      rw (← same, if-same one words, turned, before) (last-again opener.depth (reverse (answered_to one deeds)) words))
      place block there
  kept-last (one_more done (acts at call)) place block there = kept-last done place block there
