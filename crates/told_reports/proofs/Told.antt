-- The line of each thing that a report tells is a text with a line feed, and this text tells it.
use Rattle.std.proofs.Common.{◌≡◌, ◌<◌, ℕ, Bool, true, false, nat_eq, ◌||◌, List, [], ◌∷◌, ◌++◌, refl, ap, ◌∙◌}
use Rattle.std.proofs.Common.{append_assoc, arith}
use Rattle.std.specs.Prelude.{ℤ, codes}
use Rattle.std.specs.Fmt.{decimal, signed_decimal}
use Rattle.std.specs.List.{list_any}
use Rattle.report_reader.specs.declared.told.Told.TheVariants as told
use Rattle.shown_sectors.specs.declared.sectors.SectorWords.{SectorWords}
use Rattle.tal_tree.specs.declared.act.Act.{Act}
use Rattle.tal_tree.specs.declared.act.Act.TheVariants.{Step, Take, Enter, Print}
use Rattle.tal_tree.specs.declared.act.Shown.{Shown}
use Rattle.tal_tree.specs.declared.act.Shown.TheVariants.{Write, Reply}
use Rattle.tal_tree.specs.declared.site.Site.{Site}
use Rattle.trace_print.specs.ActLine.{act_line, opener_name}
use Rattle.trace_print.specs.EndLine.{end_line}
use Rattle.trace_print.specs.NumbersText.{words_text}
use Rattle.trace_print.specs.SectorLine.{sector_line}
use Rattle.trace_print.specs.ShownLine.{process_name, shown_line, terminal_name}
use Rattle.trace_print.specs.StopLine.{stop_line}
use Rattle.trace_print.specs.declared.closing.End.{End}
use Rattle.trace_print.specs.declared.closing.End.TheVariants as end
use Rattle.told_reports.specs.InForm.{IsEndOn, IsProcessorOf, IsSectorOf, IsShownOn}
use Rattle.told_reports.specs.NamesApart.{IsNamedAct, TellsNamesApart}
use Rattle.told_reports.specs.ToldLine.{IsToldBy}
use Rattle.told_reports.specs.Words.{AreWords}
use Rattle.told_reports.proofs.LinesTold.{numbered, reply-told, second-line-told}
use Rattle.told_reports.proofs.LinesTold.{sector-told, stop-line-told, write-told}
use Rattle.told_reports.proofs.Named.{as-enter, as-print, as-step, as-take, opener-told, opener-whole, process-plain}
use Rattle.told_reports.proofs.Named.{process-told, shifted, terminal-plain, terminal-told}
use Rattle.told_reports.proofs.Words.{decimal-unsigned, word-unsigned}

five : (a b c d : List ℕ) → ((((a ++ codes " ") ++ b) ++ codes ":") ++ c) ++ d ≡ (a ++ (32 ∷ (b ++ (58 ∷ c)))) ++ d
five a b c d =
    ap (λ (xs : List ℕ). xs ++ d) (append_assoc ((a ++ codes " ") ++ b) (codes ":") c
    ∙ append_assoc (a ++ codes " ") b (58 ∷ c) ∙ append_assoc a (codes " ") (b ++ (58 ∷ c)))

-- Line feeds

abbrev IsWhole : List ℕ → Type 0
IsWhole text = list_any (λ c. nat_eq c 10) text ≡ false

whole-both : (a b : List ℕ) → IsWhole a → IsWhole b → IsWhole (a ++ b)
whole-both [] b first second = second
whole-both (c ∷ a) b first second = by (nat_eq c 10) first (λ e. whole-both a b e second)
  where
    by : (t : Bool) → (t || list_any (λ c. nat_eq c 10) a) ≡ false → (IsWhole a → IsWhole (a ++ b))
        → (t || list_any (λ c. nat_eq c 10) (a ++ b)) ≡ false
    by true e later = absurd (cc)
    by false e later = later e

words-whole : (words : List ℤ) → AreWords words → IsWhole (words_text words)
words-whole [] are = refl
words-whole (w ∷ words) are =
    whole-both (signed_decimal w) (words_text words) (word-unsigned 10 w are.0 (omega arith)) (words-whole words are.1)

numbered-whole : (name : List ℕ) (n : ℕ) (words : List ℤ) → IsWhole name → n < 4294967296 → AreWords words
    → IsWhole (numbered name n words)
numbered-whole name n words plain small are =
    whole-both name (32 ∷ (decimal n ++ (58 ∷ words_text words))) plain
    (whole-both (decimal n) (58 ∷ words_text words) (decimal-unsigned 10 n (omega arith) small) (words-whole words are))

-- Lines

pub shown-is-told : (site : Site) (shown : Shown) → TellsNamesApart site → IsShownOn site shown
    → IsToldBy site (shown_line site shown) told.Shown
shown-is-told site (Write process sector words) apart is =
    let plain = process-plain site process apart is.within in
    record {
      line = codes "W " ++ numbered (process_name site process) sector words;
      ended = five (codes "W " ++ process_name site process) (decimal sector) (words_text words) (10 ∷ []);
      whole = numbered-whole (process_name site process) sector words plain.1 is.small is.words;
      tells = write-told site (process_name site process) sector words plain.0 is.small is.words process
          (process-told site process apart is.within) is.there is.eight;
    }
shown-is-told site (Reply terminal number words) apart is =
    let plain = terminal-plain site terminal apart is.0 in
    record {
      line = codes "R " ++ numbered (terminal_name site terminal) number words;
      ended = five (codes "R " ++ terminal_name site terminal) (decimal number) (words_text words) (10 ∷ []);
      whole = numbered-whole (terminal_name site terminal) number words plain.1 is.1 is.2;
      tells = reply-told site (terminal_name site terminal) number words plain.0 is.1 is.2 terminal
          (terminal-told site terminal apart is.0) is.3;
    }

pub sector-is-told : (site : Site) (written : SectorWords) → TellsNamesApart site → IsSectorOf site written
    → IsToldBy site (sector_line site written) told.Sector
sector-is-told site written apart is =
    let plain = process-plain site written.process apart is.within in
    let name = process_name site written.process in
    record {
      line = codes "D " ++ numbered name written.sector written.words;
      ended = five (codes "D " ++ name) (decimal written.sector) (words_text written.words) (10 ∷ []);
      whole = numbered-whole name written.sector written.words plain.1 is.small is.words;
      tells = sector-told site name written.sector written.words plain.0 is.small is.words written.process
          (process-told site written.process apart is.within) is.there is.eight;
    }

pub stop-is-told : (site : Site) (processor : ℕ) → IsProcessorOf site processor
    → IsToldBy site (stop_line processor) (told.Stop processor)
stop-is-told site processor is = record {
  line = codes "S " ++ decimal processor;
  ended = refl;
  whole = decimal-unsigned 10 processor (omega arith) is.1;
  tells = stop-line-told site processor is.0 is.1;
}

pub act-is-told : (site : Site) (act : Act) → TellsNamesApart site → IsNamedAct site act
    → IsToldBy site (act_line site act) (told.Act act)
act-is-told site (Step process) apart named = record {
  line = codes "A step " ++ process_name site process;
  ended = refl;
  whole = (process-plain site process apart named).1;
  tells = as-step site (process_name site process) process (process-told site process apart named);
}
act-is-told site (Take process opener) apart named =
    let plain = process-plain site process apart named.0 in
    let name = process_name site process in
    let other = opener_name site process opener in
    record {
      line = codes "A take " ++ (name ++ (32 ∷ other));
      ended = ap (λ (xs : List ℕ). codes "A take " ++ xs) (shifted name other);
      whole = whole-both name (32 ∷ other) plain.1 (opener-whole site process opener apart named.1);
      tells = as-take site name other process opener plain.0 (process-told site process apart named.0)
          (opener-told site process opener apart named.1);
    }
act-is-told site (Enter terminal) apart named = record {
  line = codes "A enter " ++ terminal_name site terminal;
  ended = refl;
  whole = (terminal-plain site terminal apart named).1;
  tells = as-enter site (terminal_name site terminal) terminal (terminal-told site terminal apart named);
}
act-is-told site (Print terminal) apart named = record {
  line = codes "A print " ++ terminal_name site terminal;
  ended = refl;
  whole = (terminal-plain site terminal apart named).1;
  tells = as-print site (terminal_name site terminal) terminal (terminal-told site terminal apart named);
}

pub end-is-told : (site : Site) (how : End) → IsEndOn site how → IsToldBy site (end_line how) (told.End how)
end-is-told site end.Idle is = record { line = codes "END idle"; ended = refl; whole = refl; tells = refl }
end-is-told site end.Cut is = record { line = codes "END cut"; ended = refl; whole = refl; tells = refl }
end-is-told site (end.Second processor) is = record {
  line = codes "END second " ++ decimal processor;
  ended = refl;
  whole = decimal-unsigned 10 processor (omega arith) is.1;
  tells = second-line-told site processor is.0 is.1;
}
end-is-told site end.Checked is = absurd is
end-is-told site end.Refused is = absurd is
end-is-told site end.Swept is = absurd is
end-is-told site end.Advised is = absurd is
