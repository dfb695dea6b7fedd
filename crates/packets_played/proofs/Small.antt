-- A site within the limits of decks is small enough for the layout of messages.
use Rattle.std.proofs.Common.{◌≡◌, ◌≤◌, ◌<◌, ℕ, suc, ◌+◌, ◌==◌, ℤ, Bool, true, false, if◌then◌else◌, List, [], ◌∷◌}
use Rattle.std.proofs.Common.{length, Option, Some, None, slice_get, option_and_then, refl, sym, subst, arith, inl, inr}
use Rattle.std.proofs.lemmas.Option.{get_or_from_slice_get, slice_get_within}
use Rattle.gd_words.specs.Members.{IsAmong}
use Rattle.gd_words.proofs.Among.{among-at, among-either}
use Rattle.tal_tree.specs.Limits.{IsWithinLimits}
use Rattle.tal_tree.specs.declared.program.FileUse.{FileUse}
use Rattle.tal_tree.specs.declared.site.Kind.{Kind}
use Rattle.tal_tree.specs.declared.site.Kind.TheVariants as kind
use Rattle.tal_tree.specs.declared.site.OpenerSpec.{OpenerSpec}
use Rattle.tal_tree.specs.declared.site.ProcessSpec.{ProcessSpec}
use Rattle.tal_tree.specs.declared.site.Site.{Site}
use Rattle.tal_tree.specs.declared.site.TerminalSpec.{TerminalSpec}
use Rattle.tal_tree.specs.declared.site.Who.TheVariants as who
use Rattle.plain_semantics.specs.Machine.{next_request}
use Rattle.plain_semantics.specs.Openers.{opens, file_opener, files_from, files_of, processes_from, terminal_opener}
use Rattle.plain_semantics.specs.Openers.{terminals_from, openers_by, openers_of}
use Rattle.plain_semantics.specs.SiteLimits.{KeepsSiteLimits}
use Rattle.plain_semantics.proofs.Few.{openers-few}
use Rattle.idle_laws.specs.tal_laws.proofs.Ordered.{read_is_ordered}
use Rattle.idle_laws.specs.tal_laws.proofs.WithinLimits.{read_is_within}
use Rattle.idle_laws.specs.accepted_sites.specs.Premises.{IsAcceptedSite}
use Rattle.packets_laws.specs.letters_layout.specs.Fitting.{IsSmall}

-- Depths

file-shallow : (name : List ℕ) (process number : ℕ) (file : FileUse) (opener : OpenerSpec) → file.depth ≤ 4
    → IsAmong opener (file_opener name process number file)
    → opener.depth ≤ 4
file-shallow name process number file opener low = by (opens name file.target)
  where
    by : (test : Bool) → IsAmong opener (if test then record { who = who.File process number; depth = file.depth }
        ∷ [] else []) → opener.depth ≤ 4
    by false among = absurd among
    by true (inl same) = subst (λ (o : OpenerSpec). o.depth ≤ 4) (sym same) low
    by true (inr among) = absurd among

files-shallow : (name : List ℕ) (process number : ℕ) (files : List FileUse) (opener : OpenerSpec)
    → ((file : FileUse) → IsAmong file files → file.depth ≤ 4)
    → IsAmong opener (files_from name process number files) → opener.depth ≤ 4
files-shallow name process number [] opener low among = absurd among
files-shallow name process number (file ∷ files) opener low among =
    elim (among-either opener (file_opener name process number file) (files_from name process (number + 1) files)
    among) [
      | inl here ↦ file-shallow name process number file opener (low file (inl refl)) here
      | inr later ↦ files-shallow name process (number + 1) files opener (λ one there. low one (inr there)) later
    ]

processes-shallow : (name : List ℕ) (number : ℕ) (specs : List ProcessSpec) (opener : OpenerSpec)
    → ((k : ℕ) (spec : ProcessSpec) → slice_get specs k ≡ Some spec → (file : FileUse)
    → IsAmong file (files_of spec.what) → file.depth ≤ 4)
    → IsAmong opener (processes_from name number specs) → opener.depth ≤ 4
processes-shallow name number [] opener low among = absurd among
processes-shallow name number (spec ∷ specs) opener low among =
    elim (among-either opener (files_from name number 0 (files_of spec.what)) (processes_from name (number + 1) specs)
    among) [
      | inl here ↦ files-shallow name number 0 (files_of spec.what) opener (low 0 spec refl) here
      | inr later ↦ processes-shallow name (number + 1) specs opener (λ k one there. low (suc k) one there) later
    ]

terminals-shallow : (process number : ℕ) (specs : List TerminalSpec) (opener : OpenerSpec)
    → IsAmong opener (terminals_from process number specs) → opener.depth ≤ 4
terminals-shallow process number [] opener among = absurd among
terminals-shallow process number (spec ∷ specs) opener among =
    elim (among-either opener (terminal_opener process number spec) (terminals_from process (number + 1) specs) among) [
      | inl here ↦ by (spec.target == process) here
      | inr later ↦ terminals-shallow process (number + 1) specs opener later
    ]
  where
    by : (test : Bool) → IsAmong opener (if test then record { who = who.Terminal number; depth = 1 } ∷ [] else [])
        → opener.depth ≤ 4
    by false among = absurd among
    by true (inl same) = subst (λ (o : OpenerSpec). o.depth ≤ 4) (sym same) (omega arith)
    by true (inr among) = absurd among

module _ (site : Site) (accepted : IsAcceptedSite site) where
  -- each file of a program that was read has a small depth
  files-low : (number : ℕ) (spec : ProcessSpec) → slice_get site.processes number ≡ Some spec → (file : FileUse)
      → IsAmong file (files_of spec.what) → file.depth ≤ 4
  files-low number spec there = of spec.what refl
    where
      of : (what : Kind) → spec.what ≡ what → (file : FileUse) → IsAmong file (files_of what) → file.depth ≤ 4
      of (kind.Disc sectors mirrored) is file among = absurd among
      of (kind.Pair program) is file among =
          let read = accepted.read number spec program there is in
          let within : IsWithinLimits program =
          read_is_within read.0 program read.1 in (within.each_file file among).highest

  openers-shallow : (process place : ℕ) (opener : OpenerSpec) → slice_get (openers_of site process) place ≡ Some opener
      → opener.depth ≤ 4
  openers-shallow process place opener there =
      by (slice_get site.processes process) (among-at (openers_of site process) place opener there)
    where
      by : (named : Option ProcessSpec) → IsAmong opener (openers_by site process named) → opener.depth ≤ 4
      by None among = absurd among
      by (Some named) among = elim (among-either opener (processes_from named.name 0 site.processes)
          (terminals_from process 0 site.terminals) among) [
            | inl file ↦ processes-shallow named.name 0 site.processes opener files-low file
            | inr terminal ↦ terminals-shallow process 0 site.terminals opener terminal
          ]

-- Requests

requests-few : (site : Site) → KeepsSiteLimits site → (terminal number : ℕ) (words : List ℤ)
    → next_request site terminal number ≡ Some words → number < 1000
requests-few site keeps terminal number words is = by (slice_get site.terminals terminal) refl is
  where
    by : (found : Option TerminalSpec) → slice_get site.terminals terminal ≡ found
        → option_and_then (λ (spec : TerminalSpec). slice_get spec.requests number) found ≡ Some words → number < 1000
    by None there is = absurd cc
    by (Some spec) there is =
        let most : length spec.requests ≤ 1000 =
        subst (λ (one : TerminalSpec). length one.requests ≤ 1000)
        (get_or_from_slice_get site.terminals terminal spec spec there)
        (keeps.requests terminal spec (slice_get_within site.terminals terminal spec there)) in
        let low = slice_get_within spec.requests number words is in omega (arith, most, low)

pub small-of : (site : Site) → IsAcceptedSite site → KeepsSiteLimits site → IsSmall site
small-of site accepted keeps = record {
  processes = let most = keeps.processes in omega (arith, most);
  openers = λ process. let most = openers-few site process keeps in omega (arith, most);
  depths = λ process place opener there. let low =
      openers-shallow site accepted process place opener there in omega (arith, low);
  requests = λ terminal number words is. let low =
      requests-few site keeps terminal number words is in omega (arith, low);
  programs = λ number spec program there is.
      let read = accepted.read number spec program there is in
      (read_is_ordered read.0 program read.1, read_is_within read.0 program read.1);
}
