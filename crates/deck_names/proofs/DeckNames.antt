-- The names of a deck tell apart.
use Rattle.std.proofs.Common.{◌≡◌, ℕ, ◌<◌, true, false, nat_eq, List, [], ◌∷◌, ◌++◌, length, slice_get}
use Rattle.std.proofs.Common.{Option, Some, refl, sym, ap, ◌∙◌, subst, arith, append_assoc}
use Rattle.std.specs.List.{list_any}
use Rattle.std.specs.Option.{option_map, unwrap_or}
use Rattle.std.proofs.lemmas.Bool.{true≢false, or_from, or_parts}
use Rattle.gd_words.specs.Spelling.{is_name}
use Rattle.name_table.specs.Entries.{Named}
use Rattle.plain_semantics.specs.Openers.{files_of}
use Rattle.told_reports.specs.report_reader.specs.Parts.{cut_at}
use Rattle.tal_tree.specs.declared.site.Kind.{Kind}
use Rattle.tal_tree.specs.declared.site.Kind.TheVariants as kind
use Rattle.tal_tree.specs.declared.site.ProcessSpec.{ProcessSpec}
use Rattle.tal_tree.specs.declared.site.Site.{Site}
use Rattle.tal_tree.specs.declared.site.TerminalSpec.{TerminalSpec}
use Rattle.tal_tree.specs.declared.site.Who.{Who}
use Rattle.tal_tree.specs.declared.site.Who.TheVariants as who
use Rattle.told_reports.specs.trace_print.specs.ActLine.{variable_in, variable_name, who_name}
use Rattle.told_reports.specs.trace_print.specs.ShownLine.{process_name, terminal_name}
use Rattle.deck_lines.specs.Lines.{lines_of}
use Rattle.deck_reader.proofs.DeckPrograms.{deck_programs}
use Rattle.deck_reader.specs.Decks.{Decks, EachWith, IsProcessOf, IsTerminalOf}
use Rattle.deck_reader.specs.declared.deck.Deck.{Deck}
use Rattle.told_reports.proofs.Named.{cut-whole}
use Rattle.told_reports.specs.NamesApart.{IsPlainName, TellsNamesApart}
use Rattle.deck_reader.specs.tal_laws.proofs.Uses.{at_place}
use Rattle.deck_names.proofs.Openers.{HasFile, IsWhoOf, opener-of-site, openers-once}
use Rattle.deck_names.proofs.Outlines.{AreNames, outline-names}
use Rattle.deck_names.proofs.Places.{AreOnce, mate-at}
use Rattle.deck_names.proofs.Signs.{has-sign, name-free}
use Rattle.deck_names.proofs.Variables.{program-variables}

-- names that stand once each, and are spelled as names
record AreSpelled {X : Type 0} (name : X → List ℕ) (all : List X) : Type 0 where
  once : AreOnce name all
  spelled : (n : ℕ) (one : X) → slice_get all n ≡ Some one → is_name (name one) ≡ true

spelled-with : {T X : Type 0} (name : X → List ℕ) (R : Named T → X → Type 0) (entries : List (Named T)) (all : List X)
    → ((entry : Named T) (one : X) → R entry one → name one ≡ entry.0) → AreNames entries → EachWith R entries all
    → AreSpelled name all
spelled-with name R entries all is are each = record {
  once = λ m n one other a b same.
      let first = mate-at R entries all m one each a in
      let second = mate-at R entries all n other each b in
      are.0 m n first.mate second.mate first.there second.there
      (sym (is first.mate one first.with_it) ∙ same ∙ is second.mate other second.with_it);
  spelled = λ n one a.
      let first = mate-at R entries all n one each a in
      subst (λ (text : List ℕ). is_name text ≡ true) (sym (is first.mate one first.with_it))
      (are.1 n first.mate first.there);
}

plain : (name : List ℕ) → is_name name ≡ true → IsPlainName name
plain name is = (
  name-free 32 (record { dollar = refl; letter = refl; other = refl }) name is,
  name-free 10 (record { dollar = refl; letter = refl; other = refl }) name is,
)

slashless : (name : List ℕ) → is_name name ≡ true → list_any (λ c. nat_eq c 47) name ≡ false
slashless name is = name-free 47 (record { dollar = refl; letter = refl; other = refl }) name is

-- what holds of the names of a site
record AreSiteNames (site : Site) : Type 0 where
  processes : AreSpelled (λ (one : ProcessSpec). one.name) site.processes
  terminals : AreSpelled (λ (one : TerminalSpec). one.name) site.terminals
  own : (number : ℕ) (spec : ProcessSpec) → slice_get site.processes number ≡ Some spec → (one other : ℕ)
      → one < length (files_of spec.what) → other < length (files_of spec.what)
      → variable_in spec.what one ≡ variable_in spec.what other → one ≡ other
  whole : (number : ℕ) (spec : ProcessSpec) → slice_get site.processes number ≡ Some spec → (file : ℕ)
      → file < length (files_of spec.what) → list_any (λ c. nat_eq c 10) (variable_in spec.what file) ≡ false

named-process : (site : Site) (process : ℕ) (spec : ProcessSpec) → slice_get site.processes process ≡ Some spec
    → process_name site process ≡ spec.name
named-process site process spec there =
    ap (λ (o : Option ProcessSpec). unwrap_or (option_map (λ spec. spec.name) o) []) there

named-variable : (site : Site) (process file : ℕ) (spec : ProcessSpec) → slice_get site.processes process ≡ Some spec
    → variable_name site process file ≡ variable_in spec.what file
named-variable site process file spec there =
    ap (λ (o : Option ProcessSpec). unwrap_or (option_map (λ spec. variable_in spec.what file) o) []) there

named-terminal : (site : Site) (terminal : ℕ) (spec : TerminalSpec) → slice_get site.terminals terminal ≡ Some spec
    → terminal_name site terminal ≡ spec.name
named-terminal site terminal spec there =
    ap (λ (o : Option TerminalSpec). unwrap_or (option_map (λ spec. spec.name) o) []) there

-- a file is named by its process, `/` and its variable
named-file : (site : Site) (process file : ℕ) (has : HasFile site process file)
    → who_name site (who.File process file) ≡ has.spec.name ++ 47 ∷ variable_in has.spec.what file
named-file site process file has =
    append_assoc (process_name site process) (47 ∷ []) (variable_name site process file)
    ∙ ap (λ (name : List ℕ). name ++ 47 ∷ variable_name site process file)
    (named-process site process has.spec has.there)
    ∙ ap (λ (rest : List ℕ). has.spec.name ++ 47 ∷ rest) (named-variable site process file has.spec has.there)

joined : (a b : List ℕ) → list_any (λ c. nat_eq c 10) a ≡ false → list_any (λ c. nat_eq c 10) b ≡ false
    → list_any (λ c. nat_eq c 10) (a ++ 47 ∷ b) ≡ false
joined [] b first second = second
joined (c ∷ a) b first second =
    let parts = or_parts (nat_eq c 10) (list_any (λ c. nat_eq c 10) a) first in
    or_from (nat_eq c 10) (list_any (λ c. nat_eq c 10) (a ++ 47 ∷ b)) parts.0 (joined a b parts.1 second)

first-in : Option (List ℕ × List ℕ) → List ℕ
first-in o = (unwrap_or o ([], [])).0

second-in : Option (List ℕ × List ℕ) → List ℕ
second-in o = (unwrap_or o ([], [])).1

cut-same : (a b c d : List ℕ) → ◌≡◌ {A = Option (List ℕ × List ℕ)} (Some (a, b)) (Some (c, d))
    → (a ≡ c) × (b ≡ d)
unfolding first-in second-in
cut-same a b c d e = (ap first-in e, ap second-in e)

module _ (site : Site) (names : AreSiteNames site) where
  process-spelled : (process : ℕ) (spec : ProcessSpec) → slice_get site.processes process ≡ Some spec
      → is_name spec.name ≡ true
  process-spelled process spec there = names.processes.spelled process spec there

  -- two files under one name are one
  same-files : (p f q g : ℕ) (a : HasFile site p f) (b : HasFile site q g)
      → who_name site (who.File p f) ≡ who_name site (who.File q g) → who.File p f ≡ who.File q g
  same-files p f q g a b same =
      let texts : a.spec.name ++ 47 ∷ variable_in a.spec.what f ≡ b.spec.name ++ 47 ∷ variable_in b.spec.what g =
      sym (named-file site p f a) ∙ same ∙ named-file site q g b in
      let cut = cut-same a.spec.name (variable_in a.spec.what f) b.spec.name (variable_in b.spec.what g)
      (sym (cut-whole 47 a.spec.name (variable_in a.spec.what f)
      (slashless a.spec.name (process-spelled p a.spec a.there)))
      ∙ ap (cut_at 47) texts
      ∙ cut-whole 47 b.spec.name (variable_in b.spec.what g)
      (slashless b.spec.name (process-spelled q b.spec b.there))) in
      let process : p ≡ q = names.processes.once p q a.spec b.spec a.there b.there cut.0 in
      let specs : a.spec ≡ b.spec =
      some-same a.spec b.spec (sym a.there ∙ ap (slice_get site.processes) process ∙ b.there) in
      let file : f ≡ g = names.own q b.spec b.there f g
      (subst (λ (s : ProcessSpec). f < length (files_of s.what)) specs a.high) b.high
      (ap (λ (s : ProcessSpec). variable_in s.what f) (sym specs) ∙ cut.1) in
      ap (λ (n : ℕ). who.File n f) process ∙ ap (λ (n : ℕ). who.File q n) file
    where
      some-same : (x y : ProcessSpec) → Some x ≡ Some y → x ≡ y
      some-same x y e = cc e

  -- a terminal's name has no `/`
  file-no-terminal : (p f t : ℕ) → HasFile site p f → t < length site.terminals
      → who_name site (who.File p f) ≡ who_name site (who.Terminal t) → ⊥
  file-no-terminal p f t has within same =
      let at = at_place site.terminals t within in
      true≢false (sym (has-sign 47 has.spec.name (variable_in has.spec.what f))
      ∙ ap (list_any (λ c. nat_eq c 47)) (sym (named-file site p f has) ∙ same ∙ named-terminal site t at.0 at.1)
      ∙ slashless at.0.name (names.terminals.spelled t at.0 at.1))

  same-terminals : (t u : ℕ) → t < length site.terminals → u < length site.terminals
      → who_name site (who.Terminal t) ≡ who_name site (who.Terminal u) → who.Terminal t ≡ who.Terminal u
  same-terminals t u a b same =
      let one = at_place site.terminals t a in
      let other = at_place site.terminals u b in
      ap (λ (n : ℕ). who.Terminal n) (names.terminals.once t u one.0 other.0 one.1 other.1
      (sym (named-terminal site t one.0 one.1) ∙ same ∙ named-terminal site u other.0 other.1))

  same-whos : (one other : Who) → IsWhoOf site one → IsWhoOf site other → who_name site one ≡ who_name site other
      → one ≡ other
  same-whos (who.File p f) (who.File q g) a b same = same-files p f q g a b same
  same-whos (who.File p f) (who.Terminal t) a b same = absurd (file-no-terminal p f t a b same)
  same-whos (who.Terminal t) (who.File p f) a b same = absurd (file-no-terminal p f t b a (sym same))
  same-whos (who.Terminal t) (who.Terminal u) a b same = same-terminals t u a b same

  whole-who : (one : Who) → IsWhoOf site one → list_any (λ c. nat_eq c 10) (who_name site one) ≡ false
  whole-who (who.File p f) has =
      ap (list_any (λ c. nat_eq c 10)) (named-file site p f has)
      ∙ joined has.spec.name (variable_in has.spec.what f)
      (plain has.spec.name (process-spelled p has.spec has.there)).1 (names.whole p has.spec has.there f has.high)
  whole-who (who.Terminal t) within =
      let at = at_place site.terminals t within in
      ap (list_any (λ c. nat_eq c 10)) (named-terminal site t at.0 at.1)
      ∙ (plain at.0.name (names.terminals.spelled t at.0 at.1)).1

  site-apart : TellsNamesApart site
  site-apart = record {
    processes = names.processes.once;
    terminals = names.terminals.once;
    openers = λ process m n one other a b same.
        openers-once site process m n one other a b
        (same-whos one.who other.who (opener-of-site site process m one a) (opener-of-site site process n other b)
        same);
    plain_processes = λ n one there. plain one.name (names.processes.spelled n one there);
    plain_terminals = λ n one there. plain one.name (names.terminals.spelled n one there);
    whole_openers = λ process n one there. whole-who one.who (opener-of-site site process n one there);
  }

-- the variables of what a process is
record AreVariables (what : Kind) : Type 0 where
  own : (one other : ℕ) → one < length (files_of what) → other < length (files_of what)
      → variable_in what one ≡ variable_in what other → one ≡ other
  whole : (file : ℕ) → file < length (files_of what) → list_any (λ c. nat_eq c 10) (variable_in what file) ≡ false

variables-of : (bytes : List ℕ) (deck : Deck) (number : ℕ) (spec : ProcessSpec) → Decks bytes deck
    → slice_get deck.site.processes number ≡ Some spec → (what : Kind) → spec.what ≡ what → AreVariables what
variables-of bytes deck number spec decks there (kind.Disc sectors mirrored) is = record {
  own = λ one other a b same. absurd (omega (arith, a));
  whole = λ file a. absurd (omega (arith, a));
}
variables-of bytes deck number spec decks there (kind.Pair program) is =
    let text = deck_programs bytes deck number spec program decks there is in
    let has = program-variables text.0 program text.1 in
    record { own = has.own; whole = has.whole }

pub names-apart : (bytes : List ℕ) (deck : Deck) → Decks bytes deck → TellsNamesApart deck.site
names-apart bytes deck decks =
    let outline = decks.outlined.0 in
    let names = outline-names (lines_of bytes) outline decks.outlined.1 in
    let is = decks.outlined.2 in
    site-apart deck.site (record {
      processes = spelled-with (λ (one : ProcessSpec). one.name) IsProcessOf outline.processes deck.site.processes
          (λ entry one of. of.name) names.0 is.processes;
      terminals = spelled-with (λ (one : TerminalSpec). one.name) (IsTerminalOf outline.processes) outline.terminals
          deck.site.terminals (λ entry one of. of.name) names.1 is.terminals;
      own = λ number spec there. (variables-of bytes deck number spec decks there spec.what refl).own;
      whole = λ number spec there. (variables-of bytes deck number spec decks there spec.what refl).whole;
    })
