-- The lines of a report are told as they were written.
use Rattle.std.proofs.Common.{◌≡◌, ℕ, ◌<◌, ◌≤◌, Bool, true, false, cond, nat_eq, nat_lt, ◌&&◌, List, ◌∷◌, ◌++◌}
use Rattle.std.proofs.Common.{length, Option, Some, None, is_some, refl, ap, ◌∙◌}
use Rattle.std.specs.Prelude.{ℤ, codes, nat_le}
use Rattle.std.specs.Fmt.{decimal}
use Rattle.std.specs.List.{list_any}
use Rattle.std.specs.Option.{option_and_then, option_map}
use Rattle.std.proofs.lemmas.Bool.{lt-ltb}
use Rattle.report_reader.specs.Names.{process_named, terminal_named}
use Rattle.report_reader.specs.Numbers.{number_told, word_count}
use Rattle.report_reader.specs.Parts.{cut_at}
use Rattle.report_reader.specs.Telling.{end_told, has_sector, is_reply_of, is_sector, is_write_of, or_else, parts_told}
use Rattle.report_reader.specs.Telling.{stop_told, told_by}
use Rattle.report_reader.specs.declared.told.Told.TheVariants as told
use Rattle.tal_tree.specs.declared.site.Site.{Site}
use Rattle.trace_print.specs.NumbersText.{words_text}
use Rattle.trace_print.specs.declared.closing.End.TheVariants as end
use Rattle.told_reports.specs.Words.{AreWords}
use Rattle.told_reports.proofs.Named.{cut-whole}
use Rattle.told_reports.proofs.Numerals.{at-least, number-told}
use Rattle.told_reports.proofs.Words.{decimal-colonless, words-told}

-- `NAME number: words`
abbrev pub numbered : List ℕ → ℕ → List ℤ → List ℕ
numbered name n words = name ++ (32 ∷ (decimal n ++ (58 ∷ words_text words)))

parts-by : (text name rest digits tail : List ℕ) (value count : ℕ) → cut_at 32 text ≡ Some (name, rest)
    → cut_at 58 rest ≡ Some (digits, tail) → number_told digits ≡ Some value → word_count tail ≡ Some count
    → parts_told text ≡ Some (name, value, count)
parts-by text name rest digits tail value count first second number words =
    rw first (rw second (rw number (rw words refl)))

parts-read : (name : List ℕ) (n : ℕ) (words : List ℤ) → list_any (λ c. nat_eq c 32) name ≡ false → n < 4294967296
    → AreWords words → parts_told (numbered name n words) ≡ Some (name, n, length words)
parts-read name n words plain small are =
    parts-by (numbered name n words) name (decimal n ++ (58 ∷ words_text words)) (decimal n) (words_text words) n
    (length words) (cut-whole 32 name (decimal n ++ (58 ∷ words_text words)) plain)
    (cut-whole 58 (decimal n) (words_text words) (decimal-colonless n small)) (number-told n small)
    (words-told words are)

module _ (site : Site) (name : List ℕ) (n : ℕ) (words : List ℤ) (plain : list_any (λ c. nat_eq c 32) name ≡ false)
    (small : n < 4294967296) (are : AreWords words) where
  written : (process : ℕ) → process_named site name ≡ Some process → has_sector site (Some process) n ≡ true
      → length words ≡ 8 → is_write_of site (parts_told (numbered name n words)) ≡ true
  written process found there eight =
      ap (is_write_of site) (parts-read name n words plain small are)
      ∙ ap (λ (o : Option ℕ). has_sector site o n && nat_eq (length words) 8) found
      ∙ ap (λ (b : Bool). b && nat_eq (length words) 8) there ∙ ap (λ (k : ℕ). nat_eq k 8) eight

  replied : (terminal : ℕ) → terminal_named site name ≡ Some terminal → length words ≤ 16
      → is_reply_of site (parts_told (numbered name n words)) ≡ true
  replied terminal found few =
      ap (is_reply_of site) (parts-read name n words plain small are)
      ∙ ap (λ (o : Option ℕ). is_some o && nat_le (length words) 16) found ∙ at-least (length words) 16 few

  pub write-told : (process : ℕ) → process_named site name ≡ Some process → has_sector site (Some process) n ≡ true
      → length words ≡ 8 → told_by site (codes "W " ++ numbered name n words) ≡ Some told.Shown
  write-told process found there eight =
      let line = codes "W " ++ numbered name n words in
      ap (λ (b : Bool). cond b (Some told.Shown) (cond (is_sector site line) (Some told.Sector)
      (or_else (option_map told.Stop (stop_told site line)) (option_map told.End (end_told site line)))))
      (written process found there eight)

  pub reply-told : (terminal : ℕ) → terminal_named site name ≡ Some terminal → length words ≤ 16
      → told_by site (codes "R " ++ numbered name n words) ≡ Some told.Shown
  reply-told terminal found few =
      let line = codes "R " ++ numbered name n words in
      ap (λ (b : Bool). cond b (Some told.Shown) (cond (is_sector site line) (Some told.Sector)
      (or_else (option_map told.Stop (stop_told site line)) (option_map told.End (end_told site line)))))
      (replied terminal found few)

  pub sector-told : (process : ℕ) → process_named site name ≡ Some process → has_sector site (Some process) n ≡ true
      → length words ≡ 8 → told_by site (codes "D " ++ numbered name n words) ≡ Some told.Sector
  sector-told process found there eight =
      let line = codes "D " ++ numbered name n words in
      ap (λ (b : Bool). cond b (Some told.Sector)
      (or_else (option_map told.Stop (stop_told site line)) (option_map told.End (end_told site line))))
      (written process found there eight)

pub stop-line-told : (site : Site) (processor : ℕ) → processor < site.processors → processor < 4294967296
    → told_by site (codes "S " ++ decimal processor) ≡ Some (told.Stop processor)
stop-line-told site processor there small =
    let line = codes "S " ++ decimal processor in
    ap (λ (o : Option ℕ). or_else (option_map told.Stop (option_and_then
    (λ number. cond (nat_lt number site.processors) (Some number) None) o)) (option_map told.End (end_told site line)))
    (number-told processor small)
    ∙ ap (λ (b : Bool). or_else (option_map told.Stop (cond b (Some processor) None))
    (option_map told.End (end_told site line))) (lt-ltb processor site.processors there)

pub second-line-told : (site : Site) (processor : ℕ) → processor < site.processors → processor < 4294967296
    → told_by site (codes "END second " ++ decimal processor) ≡ Some (told.End (end.Second processor))
second-line-told site processor there small =
    ap (λ (o : Option ℕ). option_map told.End (option_map end.Second (option_and_then
    (λ number. cond (nat_lt number site.processors) (Some number) None) o))) (number-told processor small)
    ∙ ap (λ (b : Bool). option_map told.End (option_map end.Second (cond b (Some processor) None)))
    (lt-ltb processor site.processors there)
