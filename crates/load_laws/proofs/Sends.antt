-- The requests of a terminal, as lines say them.
use Rattle.std.proofs.Common.{◌≡◌, ◌<◌, ◌≤◌, ◌∙◌, ℕ, zero, suc, ◌+◌, ◌*◌, ◌%◌, Bool, true, false, not, ◌&&◌, ◌==◌}
use Rattle.std.proofs.Common.{if◌then◌else◌, List, [], ◌∷◌, ◌++◌, length, refl, ap, subst, sym, codes, pos, arith}
use Rattle.std.specs.List.{list_all}
use Rattle.std.specs.Fmt.{decimal, digits}
use Rattle.std.proofs.lemmas.Bool.{not-true, eqb-true, lt-leb}
use Rattle.std.proofs.lemmas.List.{append_assoc, length-append}
use Rattle.load_deck.specs.LoadText.{request_text, requests}
use Rattle.deck_lines.specs.Lines.{lines_of, before_first}
use Rattle.deck_lines.specs.SayingOf.{saying_of}
use Rattle.deck_reader.specs.Outlined.{told_after, led_on, in_requests, breach_at}
use Rattle.deck_reader.specs.declared.outline.Outline.{Outline}
use Rattle.deck_reader.specs.declared.outline.TerminalLines.{TerminalLines}
use Rattle.deck_lines.specs.declared.saying.Saying.{Saying}
use Rattle.deck_lines.specs.declared.saying.Saying.TheVariants as said
use Rattle.deck_reader.specs.declared.step.Stage.{Stage}
use Rattle.deck_reader.specs.declared.step.Stage.TheVariants as at
use Rattle.deck_reader.specs.declared.step.LineOutcome.TheVariants as step
use Rattle.deck_reader.specs.declared.line_fault.LineFault.TheVariants as fault
use Rattle.deck_reader.specs.declared.told.Told.{Told}
use Rattle.accepted_sites.proofs.Listed.{both}
use Rattle.load_laws.specs.LoadDeck.{each_below, request}
use Rattle.load_laws.proofs.Below.{all_below, passes-below}
use Rattle.tal_tree.specs.declared.limit.DeckLimit.TheVariants as deck_limit

abbrev is_in_line : ℕ → Bool
is_in_line c = not (c == 10)

-- a line without a line feed comes first
pub first-line : (words rest : List ℕ) → list_all is_in_line words ≡ true
    → lines_of (words ++ 10 ∷ rest) ≡ words ∷ lines_of rest
first-line [] rest free = refl
first-line (c ∷ cs) rest free =
    let parts = both (is_in_line c) (list_all is_in_line cs) free in
    ap (λ (b : Bool). if b then [] ∷ lines_of (cs ++ 10 ∷ rest) else before_first c (lines_of (cs ++ 10 ∷ rest)))
    (not-true (c == 10) parts.0)
    ∙ ap (before_first c) (first-line cs rest parts.1)

-- the line of a request of one word
abbrev send_line : ℕ → List ℕ
send_line word = codes "send " ++ decimal word

-- it is the request of this one word
abbrev is_send : ℕ → Saying → Bool
is_send word (said.Send (pos sent ∷ [])) = sent == word
is_send word _ = false

send-is : (word : ℕ) (saying : Saying) → is_send word saying ≡ true → saying ≡ said.Send (pos word ∷ [])
send-is word (said.Send (pos sent ∷ [])) is = ap (λ (n : ℕ). said.Send (pos n ∷ [])) (eqb-true sent word is)
send-is word _ is = absurd (cc)

abbrev is_word : ℕ → Bool
is_word word = is_send word (saying_of (send_line word)) && list_all is_in_line (send_line word)

-- the lines of the words below 100, one by one
words-below : all_below is_word 100 ≡ true
unfolding digits
words-below = refl

-- the terminal with its first requests
abbrev pub asked_so_far : TerminalLines → ℕ → ℕ → TerminalLines
asked_so_far terminal number count = record terminal { requests = each_below (request number) count }

length-each : {A : Type 0} (make : ℕ → A) (count : ℕ) → length (each_below make count) ≡ count
length-each make zero = refl
length-each make (suc count) = length-append (each_below make count) (make count ∷ [])
    ∙ ap (λ (n : ℕ). n + 1) (length-each make count) ∙ omega arith

-- the word of a request
abbrev word_of : ℕ → ℕ → ℕ
word_of terminal number = (7 * terminal + 3 * (number + 1)) % 100

request-line : (terminal number : ℕ) (rest : List ℕ)
    → lines_of (request_text terminal (number + 1) ++ rest) ≡ send_line (word_of terminal number) ∷ lines_of rest
request-line terminal number rest =
    let word = word_of terminal number in
    ap (λ (text : List ℕ). lines_of (codes "send " ++ text)) (append_assoc (decimal word) (10 ∷ []) rest)
    ∙ first-line (send_line word) rest (both _ _ (passes-below is_word 100 word words-below (omega arith))).1

request-said : (terminal number : ℕ) → saying_of (send_line (word_of terminal number))
    ≡ said.Send (request terminal number)
request-said terminal number =
    let word = word_of terminal number in
    send-is word (saying_of (send_line word)) (both _ _ (passes-below is_word 100 word words-below (omega arith))).0

module _ (outline : Outline) (name : List ℕ) (terminal : TerminalLines) (number : ℕ) where
  -- the stage after so many requests
  abbrev after_requests : ℕ → Stage
  after_requests count = at.Requests outline name (asked_so_far terminal number count)

  -- one more request
  sent-one : (before line : ℕ) (rest : List ℕ) → before < 1000
      → told_after (after_requests before) line (lines_of (request_text number (before + 1) ++ rest))
      ≡ told_after (after_requests (suc before)) (line + 1) (lines_of rest)
  sent-one before line rest few =
      let on : Stage → Told = λ next. told_after next (line + 1) (lines_of rest) in
      ap (told_after (after_requests before) line) (request-line number before rest)
      ∙ ap (λ (saying : Saying). led_on on (in_requests outline name (asked_so_far terminal number before) (line + 1)
      saying)) (request-said number before)
      ∙ ap (λ (full : Bool). led_on on (if full then step.Broken
      (breach_at outline (line + 1) (fault.Limit deck_limit.Requests)) else
      step.Next (after_requests (suc before))))
      (lt-leb 1000 (length (each_below (request number) before))
      (subst (λ (n : ℕ). n < 1000) (sym (length-each (request number) before)) few))

  pub sent : (count line : ℕ) (rest : List ℕ) → count ≤ 1000
      → told_after (after_requests 0) line (lines_of (requests number count ++ rest))
      ≡ told_after (after_requests count) (line + count) (lines_of rest)
  sent zero line rest few =
      let same : line ≡ line + 0 = omega arith in ap (λ (n : ℕ). told_after (after_requests 0) n (lines_of rest)) same
  sent (suc before) line rest few =
      let next : line + before + 1 ≡ line + suc before = omega arith in
      ap (λ (text : List ℕ). told_after (after_requests 0) line (lines_of text))
      (append_assoc (requests number before) (request_text number (before + 1)) rest)
      ∙ sent before line (request_text number (before + 1) ++ rest) (omega arith)
      ∙ sent-one before (line + before) rest (omega arith)
      ∙ ap (λ (n : ℕ). told_after (after_requests (suc before)) n (lines_of rest)) next
