-- Words that are counted, and lines that are read, one after the other.
use Rattle.std.proofs.Common.{◌≡◌, ℕ, ◌+◌, ◌≤◌, Bool, true, false, cond, ◌&&◌, List, [], ◌∷◌, ◌++◌, length}
use Rattle.std.proofs.Common.{Option, Some, None, refl, sym, ap, ◌∙◌, arith, append_assoc, append-nil, length-append}
use Rattle.std.proofs.Common.{if◌then◌else◌}
use Rattle.std.specs.Prelude.{Result, Ok, Err}
use Rattle.std.specs.List.{list_all}
use Rattle.std.specs.Option.{option_map}
use Rattle.tal_tree.specs.declared.site.Site.{Site}
use Rattle.report_reader.specs.Numbers.{are_words, is_word}
use Rattle.trace_print.specs.declared.closing.End.{End}
use Rattle.report_reader.specs.DeckEnds.{deck_end, is_end, is_inside, length_to_end}
use Rattle.report_reader.specs.Parts.{Parts, one_part, parts_of, parts_with}
use Rattle.report_reader.specs.Reading.{closed, ended_by, read_lines, read_on, read_report, told_first}
use Rattle.report_reader.specs.Telling.{next_told}
use Rattle.report_reader.specs.declared.reading.Reading.{Reading}
use Rattle.report_reader.specs.declared.told.Told.{Told}

-- so many words before others
abbrev pub words_more : ℕ → Option ℕ → Option ℕ
words_more count words = option_map (λ n. count + n) words

pub no-words-yet : (words : Option ℕ) → words ≡ words_more 0 words
no-words-yet None = refl
no-words-yet (Some n) = ap Some (omega arith)

-- one word more
pub word-more : (count : ℕ) (word : List ℕ) (parts : Parts) → is_word word ≡ true
    → words_more count (are_words (parts_with word parts)) ≡ words_more (count + 1) (are_words parts)
word-more count word parts is = by (is_word word) is (is_word parts.first && list_all is_word parts.others)
  where
    by : (b : Bool) → b ≡ true → (rest : Bool)
        → words_more count (cond (b && rest) (Some (1 + length (parts.first ∷ parts.others))) None)
        ≡ words_more (count + 1) (cond rest (Some (1 + length parts.others)) None)
    by true e true = ap Some (omega arith)
    by true e false = refl
    by false e rest = absurd (cc)

pub no-word : (count : ℕ) (word : List ℕ) (parts : Parts) → is_word word ≡ false
    → words_more count (are_words (parts_with word parts)) ≡ None
no-word count word parts is = by (is_word word) is
  where
    by : (b : Bool) → b ≡ false → words_more count
        (cond (b && (is_word parts.first && list_all is_word parts.others))
        (Some (1 + length (parts.first ∷ parts.others))) None) ≡ None
    by true e = absurd (cc)
    by false e = refl

-- what is told before the rest
abbrev pub told_before : List Told → Result Reading ℕ → Result Reading ℕ
told_before told (Err number) = Err number
told_before told (Ok reading) = Ok (record reading { told = told ++ reading.told })

pub nothing-before : (reading : Result Reading ℕ) → reading ≡ told_before [] reading
nothing-before (Err number) = refl
nothing-before (Ok reading) = refl

-- one line more
line-more : (told : List Told) (next : Told) (reading : Result Reading ℕ)
    → told_before told (told_first next reading) ≡ told_before (told ++ next ∷ []) reading
line-more told next (Err number) = refl
line-more told next (Ok reading) =
    ap (λ (all : List Told). Ok (record reading { told = all })) (sym (append_assoc told (next ∷ []) reading.told))

-- the lines that are read and those that are left
pub record IsReadTo (site : Site) (report : List ℕ) (before : Option Told) (told : List Told) (parts : Parts) :
    Type 0 where
  pub same : read_report site report ≡ told_before told
      (read_lines site before (length told + 1) parts.first parts.others)

pub none-read : (site : Site) (report : List ℕ) → IsReadTo site report None [] (parts_of 10 report)
none-read site report = record { same = nothing-before (read_report site report) }

module _ (site : Site) (report : List ℕ) (before : Option Told) (told : List Told) (line : List ℕ) (parts more : Parts)
    (is : parts ≡ parts_with line more)
    (read : IsReadTo site report before told parts) where
  there : read_report site report
      ≡ told_before told (read_on (length told + 1)
      (λ (one : Told). read_lines site (Some one) (length told + 1 + 1) more.first more.others)
      (next_told site before line))
  there = read.same ∙ ap (λ (p : Parts). told_before told (read_lines site before (length told + 1) p.first p.others))
      is

  pub one-read : (next : Told) → next_told site before line ≡ Some next
      → IsReadTo site report (Some next) (told ++ next ∷ []) more
  one-read next tells = record {
    same = there
        ∙ ap (λ (o : Option Told). told_before told
        (read_on (length told + 1) (λ (one : Told). read_lines site (Some one) (length told + 1 + 1) more.first
        more.others) o)) tells
        ∙ line-more told next (read_lines site (Some next) (length told + 1 + 1) more.first more.others)
        ∙ ap (λ (n : ℕ). told_before (told ++ next ∷ []) (read_lines site (Some next) n more.first more.others))
        (omega (arith, length-append told (next ∷ [])));
  }

  pub formless : next_told site before line ≡ None → read_report site report ≡ Err (length told + 1)
  formless tells =
      there
      ∙ ap (λ (o : Option Told). told_before told
      (read_on (length told + 1) (λ (one : Told). read_lines site (Some one) (length told + 1 + 1) more.first
      more.others) o)) tells

module _ (site : Site) (report : List ℕ) (before : Option Told) (told : List Told) (left : List ℕ) (parts : Parts)
    (is : parts ≡ one_part left)
    (read : IsReadTo site report before told parts) where
  at-end : read_report site report ≡ told_before told (closed (length told + 1) (ended_by before left))
  at-end = read.same ∙ ap (λ (p : Parts). told_before told (read_lines site before (length told + 1) p.first p.others))
      is

  pub all-read : (end : End) → ended_by before left ≡ Some end
      → read_report site report ≡ Ok (record { told = told; end = end })
  all-read end ends =
      at-end ∙ ap (λ (o : Option End). told_before told (closed (length told + 1) o)) ends
      ∙ ap (λ (all : List Told). Ok (record { told = all; end = end })) (append-nil told)

  pub no-end : ended_by before left ≡ None → read_report site report ≡ Err (length told + 1)
  no-end ends = at-end ∙ ap (λ (o : Option End). told_before told (closed (length told + 1) o)) ends

-- a deck that is sought so far, with this text left
pub record IsSoughtTo (bytes rest : List ℕ) (inside : Bool) : Type 0 where
  pub same : deck_end bytes + length rest
      ≡ length bytes + length_to_end inside (parts_of 10 rest).first (parts_of 10 rest).others
  pub within : length rest ≤ length bytes

pub none-sought : (bytes : List ℕ) → IsSoughtTo bytes bytes false
none-sought bytes = record { same = omega arith; within = omega arith }

module _ (bytes rest line after : List ℕ) (inside : Bool) (is : parts_of 10 rest ≡ parts_with line (parts_of 10 after))
    (lengths : length line + 1 + length after ≡ length rest)
    (sought : IsSoughtTo bytes rest inside) where
  to-line : deck_end bytes + length after
      ≡ length bytes + (if is_end inside line then 0 else length_to_end (is_inside inside line)
      (parts_of 10 after).first (parts_of 10 after).others)
  to-line =
      let here = ap (λ (p : Parts). length_to_end inside p.first p.others) is in
      omega (arith, sought.same, here, lengths)

  pub line-sought : is_end inside line ≡ false → IsSoughtTo bytes after (is_inside inside line)
  line-sought goes = record {
    same = to-line ∙ ap (λ (b : Bool). length bytes
        + (if b then 0 else length_to_end (is_inside inside line) (parts_of 10 after).first
        (parts_of 10 after).others)) goes;
    within = omega (arith, lengths, sought.within);
  }

  pub end-found : is_end inside line ≡ true
      → (deck_end bytes + length after ≡ length bytes) × (length after ≤ length bytes)
  end-found ends = (
    to-line ∙ ap (λ (b : Bool). length bytes
        + (if b then 0 else length_to_end (is_inside inside line) (parts_of 10 after).first
        (parts_of 10 after).others)) ends ∙ omega arith,
    omega (arith, lengths, sought.within),
  )

pub no-end-found : (bytes rest : List ℕ) (inside : Bool) → parts_of 10 rest ≡ one_part rest
    → IsSoughtTo bytes rest inside → deck_end bytes ≡ length bytes
no-end-found bytes rest inside is sought =
    let here = ap (λ (p : Parts). length_to_end inside p.first p.others) is in
    omega (arith, sought.same, here)
