-- A deck that bytes spell keeps the limits and its programs were read; so its site meets the premises where they are
-- accepted.
use Rattle.std.proofs.Common.{◌≡◌, ◌≤◌, ℕ, ℤ, List, [], length, slice_get, Option, Some, None, arith, refl, ap}
use Rattle.std.proofs.Common.{◌∙◌, subst}
use Rattle.std.specs.List.{All, slice_index_or}
use Rattle.std.specs.Option.{option_and_then}
use Rattle.std.proofs.lemmas.Option.{get_or_from_slice_get, slice_get-get_or, slice_get_within}
use Rattle.packet_lengths.specs.awaited_requests.specs.Seats.{IsLaidOut}
use Rattle.packet_lengths.specs.deck_reader.specs.Limits.{HasShortRequests, IsKindWithinLimits, IsProcessWithinLimits}
use Rattle.packet_lengths.specs.deck_reader.specs.Limits.{IsSiteWithinLimits}
use Rattle.gd_words.proofs.Among.{among-at}
use Rattle.packet_lengths.specs.accepted_sites.specs.Premises.{IsAcceptedSite}
use Rattle.loading_laws.proofs.Loading.{read-is-loadable}
use Rattle.plain_semantics.specs.Openers.{files_of}
use Rattle.plain_semantics.specs.SiteLimits.{KeepsSiteLimits}
use Rattle.packet_lengths.specs.process_copies.specs.Starting.{HasDepths, HasSectors, IsStartable}
use Rattle.packet_lengths.specs.processes.specs.Seen.{IsLoadableKind}
use Rattle.packet_lengths.specs.sync_ids.specs.Tables.{IsDepth}
use Rattle.loading_laws.specs.tal_interp.specs.Sound.{IsLoadable}
use Rattle.loading_laws.specs.tal_reader.specs.Reads.{Reads}
use Rattle.tal_tree.specs.Limits.{IsFileWithinLimits}
use Rattle.tal_tree.specs.declared.program.FileUse.{FileUse}
use Rattle.tal_tree.specs.declared.program.Program.{Program}
use Rattle.tal_tree.specs.declared.site.Kind.{Kind}
use Rattle.tal_tree.specs.declared.site.Kind.TheVariants as kind
use Rattle.tal_tree.specs.declared.site.ProcessSpec.{ProcessSpec}
use Rattle.tal_tree.specs.declared.site.Site.{Site}
use Rattle.tal_tree.specs.declared.site.TerminalSpec.{TerminalSpec}
use Rattle.verdicts.specs.Judgeable.{AreJudgeable, IsJudgeableKind}
use Rattle.verdicts.specs.Refused.{AreAccepted, program_at, program_of}

-- what holds of all of a list holds of what stands at a place of it, and the other way round
at-place : {X : Type 0} (P : X → Type 0) (xs : List X) (n : ℕ) (x : X) → All P xs → slice_get xs n ≡ Some x → P x
at-place P xs n x all there = subst P (get_or_from_slice_get xs n x x there) (all n x (slice_get_within xs n x there))

at-each : {X : Type 0} (P : X → Type 0) (xs : List X) → ((n : ℕ) (x : X) → slice_get xs n ≡ Some x → P x) → All P xs
at-each P xs each = λ k d there. each k (slice_index_or xs k d) (slice_get-get_or xs k d there)

-- a program that some text reads as
abbrev pub Read : Program → Type 0
Read program = (text : List ℕ) × Reads text program

abbrev AreRead : Kind → Type 0
AreRead what = (program : Program) → what ≡ kind.Pair program → Read program

loadable-program : (program : Program) → Read program → IsLoadable program
loadable-program program read = read-is-loadable read.0 program read.1

loadable-kind : (what : Kind) → AreRead what → IsLoadableKind what
loadable-kind (kind.Disc sectors mirrored) read = tt
loadable-kind (kind.Pair program) read = loadable-program program (read program refl)

judgeable-kind : (what : Kind) → AreRead what → IsJudgeableKind what
judgeable-kind (kind.Disc sectors mirrored) read = tt
judgeable-kind (kind.Pair program) read =
    let loadable = loadable-program program (read program refl) in
    record { ordered = loadable.ordered; limits = loadable.limits; regular = loadable.regular }

few-files : (what : Kind) → IsKindWithinLimits what → length (files_of what) ≤ 8
few-files (kind.Disc sectors mirrored) keeps = omega arith
few-files (kind.Pair program) keeps = keeps.files

has-sectors : (what : Kind) → IsKindWithinLimits what → HasSectors what
has-sectors (kind.Disc sectors mirrored) keeps = keeps
has-sectors (kind.Pair program) keeps = tt

depth-of : (program : Program) (file : FileUse) → IsFileWithinLimits program.items file → IsDepth file.depth
depth-of program file keeps = (keeps.lowest, keeps.highest)

has-depths : (what : Kind) → IsKindWithinLimits what → HasDepths what
has-depths (kind.Disc sectors mirrored) keeps =
    at-each (λ (file : FileUse). IsDepth file.depth) [] (λ n file there. absurd (cc))
has-depths (kind.Pair program) keeps =
    at-each (λ (file : FileUse). IsDepth file.depth) program.files
    (λ n file there. depth-of program file (keeps.each_file file (among-at program.files n file there)))

program-there : (specs : List ProcessSpec) (number : ℕ) (spec : ProcessSpec) (program : Program)
    → slice_get specs number ≡ Some spec
    → spec.what ≡ kind.Pair program → program_at specs number ≡ Some program
program-there specs number spec program there pair =
    ap (option_and_then (λ (one : ProcessSpec). program_of one.what)) there ∙ ap program_of pair

-- what the reader of decks says of a site
pub record IsTold (site : Site) : Type 0 where
  pub within : IsSiteWithinLimits site
  pub short : All HasShortRequests site.terminals
  pub read : (number : ℕ) (spec : ProcessSpec) (program : Program) → slice_get site.processes number ≡ Some spec
      → spec.what ≡ kind.Pair program
      → Read program

pub limits-of : (site : Site) → IsTold site → KeepsSiteLimits site
limits-of site is = record {
  processes = is.within.processes;
  terminals = is.within.terminals;
  files = λ k d there. few-files (slice_index_or site.processes k d).what (is.within.each_process k d there).what;
  requests = λ k d there. (is.within.each_terminal k d there).requests;
}

pub startable-of : (site : Site) → IsTold site → IsStartable site
startable-of site is = record {
  limits = limits-of site is;
  loadable = at-each (λ (spec : ProcessSpec). IsLoadableKind spec.what) site.processes
      (λ n spec there. loadable-kind spec.what (λ program pair. is.read n spec program there pair));
  sectors = λ k d there. has-sectors (slice_index_or site.processes k d).what (is.within.each_process k d there).what;
  depths = λ k d there. has-depths (slice_index_or site.processes k d).what (is.within.each_process k d there).what;
}

pub judgeable-of : (site : Site) → IsTold site → AreJudgeable site.processes
judgeable-of site is =
    at-each (λ (spec : ProcessSpec). IsJudgeableKind spec.what) site.processes
    (λ n spec there. judgeable-kind spec.what (λ program pair. is.read n spec program there pair))

pub laid-out-of : (site : Site) → IsTold site → IsLaidOut site
laid-out-of site is = record {
  few = is.within.most_processors;
  places = λ number spec there.
      let keeps = at-place (IsProcessWithinLimits site.processors) site.processes number spec is.within.each_process
      there in
      (keeps.primary, keeps.backup, keeps.apart);
}

request-short : (site : Site) (terminal entered : ℕ) (words : List ℤ) → All HasShortRequests site.terminals
    → (at : Option TerminalSpec)
    → slice_get site.terminals terminal ≡ at
    → option_and_then (λ (spec : TerminalSpec). slice_get spec.requests entered) at ≡ Some words → length words ≤ 16
request-short site terminal entered words all None there asked = absurd (cc)
request-short site terminal entered words all (Some spec) there asked =
    at-place (λ (request : List ℤ). length request ≤ 16) spec.requests entered words
    (at-place HasShortRequests site.terminals terminal spec all there) asked

pub accepted-of : (site : Site) → IsTold site → AreAccepted site.processes → IsAcceptedSite site
accepted-of site is accepted = record {
  read = is.read;
  accepted = λ number spec program there pair.
      accepted number program (program-there site.processes number spec program there pair);
  requests = λ terminal entered words asked.
      request-short site terminal entered words is.short (slice_get site.terminals terminal) refl asked;
}
