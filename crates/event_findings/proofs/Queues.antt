-- The messages that are sent, told one after the other from a place of a queue on.
use Rattle.std.proofs.Common.{◌≡◌, ℕ, zero, suc, ◌+◌, ◌-◌, ◌≤◌, ℤ, List, [], ◌∷◌, ◌++◌, length, drop, slice_get}
use Rattle.std.proofs.Common.{Some, None, ap, ap₂, sym, ◌∙◌, append_assoc, arith}
use Rattle.std.proofs.lemmas.List.{append-nil, at_drop_all, drop_more}
use Rattle.std.proofs.lemmas.Option.{get_or_from_slice_get, slice_get_within}
use Rattle.tal_tree.specs.declared.site.Site.{Site}
use Rattle.trace_lines.specs.declared.finding.Finding.{Finding}
use Rattle.event_findings.specs.Sends.{last_behind, sends_behind, sends_unless}
use Rattle.event_findings.specs.declared.noting.Queued.{Queued}

slice_get_none : (queue : List (List ℤ)) (place : ℕ) → None ≡ slice_get queue place → length queue ≤ place
slice_get_none [] zero none = omega arith
slice_get_none [] (suc k) none = omega arith
slice_get_none (x ∷ xs) zero none = absurd (cc)
slice_get_none (x ∷ xs) (suc k) none = omega (arith, slice_get_none xs k none)

module _ (site : Site) (queued : Queued) (number waited : ℕ) (queue : List (List ℤ)) (place : ℕ) where
  abbrev told : List (List ℤ) → List Finding
  told left = sends_behind site queued number waited left

  rest-at : (words : List ℤ) → slice_get queue place ≡ Some words
      → drop place queue ≡ words ∷ drop (place + 1) queue
  rest-at words there =
      drop_more queue place words (slice_get_within queue place words there)
      ∙ ap (λ (one : List ℤ). one ∷ drop (place + 1) queue) (get_or_from_slice_get queue place words words there)

  -- the message at the place is told, and then what stands behind it
  pub turn : (words : List ℤ) (before after : List Finding) → slice_get queue place ≡ Some words
      → after ≡ before ++ sends_unless site queued waited (last_behind number words) words
      → after ++ sends_behind site queued (last_behind number words) (waited - 1) (drop (place + 1) queue)
      ≡ before ++ sends_behind site queued number waited (drop place queue)
  turn words before after there is =
      let rest = sends_behind site queued (last_behind number words) (waited - 1) (drop (place + 1) queue) in
      ap (λ (fs : List Finding). fs ++ rest) is
      ∙ append_assoc before (sends_unless site queued waited (last_behind number words) words) rest
      ∙ ap (λ (left : List (List ℤ)). before ++ told left) (sym (rest-at words there))

  -- the same by what each call gave, if all from the place on is still to be told
  pub told_in_turn : (whole before after : List Finding) (last left : ℕ) (words seen : List ℤ)
      → Some words ≡ slice_get queue place → seen ≡ words → last ≡ last_behind number words → left ≡ waited - 1
      → after ≡ before ++ sends_unless site queued waited last seen
      → before ++ sends_behind site queued number waited (drop place queue) ≡ whole
      → after ++ sends_behind site queued last left (drop (place + 1) queue) ≡ whole
  told_in_turn whole before after last left words seen there same is_last is_left is invariant =
      ap₂ (λ (n w : ℕ). after ++ sends_behind site queued n w (drop (place + 1) queue)) is_last is_left
      ∙ turn words before after (sym there)
      (is ∙ ap₂ (λ (n : ℕ) (ws : List ℤ). before ++ sends_unless site queued waited n ws) is_last same)
      ∙ invariant

  -- behind the last message nothing is told
  pub told_to_end : (whole before : List Finding) → length queue ≤ place
      → before ++ sends_behind site queued number waited (drop place queue) ≡ whole → before ≡ whole
  told_to_end whole before past invariant =
      sym (append-nil before) ∙ ap (λ (fs : List Finding). before ++ fs) (sym (at_drop_all told queue place past))
      ∙ invariant

  pub told_to_none : (whole before : List Finding) → None ≡ slice_get queue place
      → before ++ sends_behind site queued number waited (drop place queue) ≡ whole → before ≡ whole
  told_to_none whole before none invariant = told_to_end whole before (slice_get_none queue place none) invariant
