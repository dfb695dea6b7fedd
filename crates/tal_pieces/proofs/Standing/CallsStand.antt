-- The calls of a text without faults.
use Rattle.std.proofs.Common.{◌≡◌, ◌≤◌, ℕ, suc, Bool, true, false, not, ◌&&◌, ◌||◌, nat_le, List, [], ◌∷◌, length, refl}
use Rattle.std.proofs.Common.{sym, ap, subst, arith, if◌then◌else◌}
use Rattle.std.specs.Prelude.{slice_get, Option, Some, None}
use Rattle.tal_tree.specs.declared.program.Program.{Program}
use Rattle.tal_tree.specs.declared.statement.What.TheVariants as what
use Rattle.tal_tokens.specs.declared.token.At.{At}
use Rattle.tal_syntax.specs.Grammar as g
use Rattle.tal_names.specs.declared.fault.Rule.TheVariants.{Twice, WrongKind, Prologue, Limit}
use Rattle.tal_names.specs.declared.meaning.Meaning.{Meaning}
use Rattle.tal_names.specs.declared.meaning.Need.TheVariants as need
use Rattle.tal_declarations.specs.declared.table.Files.{Files}
use Rattle.tal_names.specs.declared.scope.Named.{Named}
use Rattle.tal_names.specs.declared.scope.Scope.{Scope}
use Rattle.tal_rules.specs.declared.walk.Stage.{Stage}
use Rattle.tal_rules.specs.declared.walk.Stage.TheVariants as stage
use Rattle.tal_rules.specs.declared.walk.Walk.{Walk}
use Rattle.tal_names.specs.declared.system.System.{System}
use Rattle.tal_names.specs.declared.system.System.TheVariants as system
use Rattle.tal_rules.specs.Calls.{name_in, named_faults, is_opened, name_opened, file_limit, string_faults}
use Rattle.tal_rules.specs.Calls.{depth_faults, opens_receive, takes_open, is_start, open_faults, monitor_faults}
use Rattle.tal_rules.specs.Calls.{call_faults}
use Rattle.tal_names.specs.Faults.{fault_at}
use Rattle.tal_declarations.specs.Files as files
use Rattle.tal_declarations.specs.Files.{opened, opened_named, call_files}
use Rattle.tal_names.specs.Places.{first_of_argument, name_of_argument}
use Rattle.tal_names.specs.Scopes.{meaning_of, kind_faults, is_file}
use Rattle.tal_rules.specs.Statements.{next_number, next_file, stage_after_open, stage_after_monitor, after_call}
use Rattle.tal_meaning.specs.Calls as trees
use Rattle.tal_meaning.specs.Calls.{meaning_by, call_what}
use Rattle.tal_pieces.proofs.Scopes.Agreement.{Agreement, Extends, OpenedSoFar, printed_scope}
use Rattle.tal_pieces.proofs.Standing.ArgumentsFit.{AreLow}
use Rattle.tal_pieces.proofs.Standing.FilesGrow.{extends_on, opened_grows}
use Rattle.tal_pieces.proofs.Standing.LoneStands.{call_stands, read_update_stands, reply_stands, write_read_stands}
use Rattle.tal_pieces.proofs.Standing.LoneStands.{counted}
use Rattle.tal_pieces.proofs.Standing.MentionsStand.{checkpoint_stands}
use Rattle.tal_faultless.proofs.Files.OpenDepths.{open_depth}
use Rattle.tal_pieces.proofs.Standing.OpenStands.{CallStands, open_stands}
use Rattle.tal_faultless.proofs.Files.FileMeanings.{opens_file}
use Rattle.tal_faultless.proofs.Scopes.SourceNames.{SourceNames}
use Rattle.tal_pieces.proofs.Standing.Stands.{IsCounted, Stands, lone, monitors, stops}
use Rattle.tal_faultless.proofs.Scopes.SourceScopes.{without_files}
use Rattle.tal_faultless.proofs.Common.Faultless.{no_fault, split, refuted}
use Rattle.std.proofs.lemmas.Bool.{not-false, or_parts}
use Rattle.tal_tree.specs.declared.limit.ProgramLimit.TheVariants as program_limit

started : (x : Stage) → is_start x ≡ true → x ≡ stage.Start
started stage.Start e = refl
started other e = absurd (cc)

opening : (x : Stage) → takes_open x ≡ true → x ≡ stage.Opens
opening stage.Opens e = refl
opening other e = absurd (cc)

-- what a name is that has to be a file's
record FileMeant (found : Option Meaning) : Type 0 where
  meaning : Meaning
  is : found ≡ Some meaning
  file : is_file meaning ≡ true

file_meant : (at : At) (found : Option Meaning) → kind_faults need.FileVariable at found ≡ [] → FileMeant found
file_meant at None faultless = no_fault faultless
file_meant at (Some x) faultless = record { meaning = x; is = refl; file = by (is_file x) faultless }
  where
    by : (b : Bool) → (if b then [] else fault_at at WrongKind) ≡ [] → b ≡ true
    by true e = refl
    by false e = no_fault e

module _ (p : Program) (locals : List (List ℕ)) (s : Scope) (all : Files) (agreed : Agreement p locals s)
    (names : SourceNames s)
    (files_are : p.files ≡ all.uses) (names_are : s.files ≡ all.names) where
  monitor_stands : (n : ℕ) (w : Walk) (f : Files) (line : ℕ) (at : At) (arguments : List g.Argument) → IsCounted w
      → suc n ≤ 33 → OpenedSoFar w.files f
      → monitor_faults w at arguments ≡ []
      → CallStands p locals s all agreed names files_are names_are n w
      (record { number = w.number; line = line; what = what.CheckMonitor })
      (record w { number = next_number w.number; stage = stage_after_monitor w.stage }) f
  monitor_stands n w f line at arguments few room so_far faultless =
      let start = started w.stage (not-false (is_start w.stage)
      (refuted (not (is_start w.stage)) at Prologue (split faultless).1)) in
      record {
        stands = subst (λ x. Stands p locals (printed_scope s) all n w
            (record { number = w.number; line = line; what = what.CheckMonitor })
            (record w { number = next_number w.number; stage = x })) (sym (ap stage_after_monitor start))
            (monitors few room start);
        opened = so_far;
      }

  open_named : (n : ℕ) (w : Walk) (f : Files) (line : ℕ) (string variable depth : g.Argument) (found : Option Named)
      → IsCounted w → suc (suc n) ≤ 33
      → OpenedSoFar w.files f → Extends all f → Extends all (opened_named (without_files s) f string depth found)
      → string_faults s (Some string) ≡ [] → (w.receive && files.is_receive string) ≡ false → w.stage ≡ stage.Opens
      → name_opened s w.files found ≡ false → nat_le 8 w.files ≡ false
      → depth_faults s (files.is_receive string) (Some depth) ≡ []
      → named_faults s need.FileVariable variable found ≡ []
      → CallStands p locals s all agreed names files_are names_are n w
      (record { number = w.number; line = line; what = what.Open (trees.file_by (meaning_by s found)) })
      (record {
        number = next_number w.number;
        stage = stage_after_open w.stage;
        files = next_file w.files;
        receive = w.receive || files.is_receive string;
      })
      (opened_named (without_files s) f string depth found)
  open_named n w f line string variable depth None few room so_far front more string_is alone ready fresh limit deep
      named = no_fault (split named).1
  open_named n w f line string variable depth (Some x) few room so_far front more string_is alone ready fresh limit
      deep named =
      let meant = file_meant x.at (meaning_of s x.name) named in
      let is_global = names.file x.name meant.meaning meant.is meant.file in
      open_stands p locals s all agreed names files_are names_are n w f line string depth x.name is_global.0 few room
      so_far front more (opens_file s string string_is)
      alone ready fresh limit (open_depth s names (files.is_receive string) depth deep) is_global.1

  open_by : (n : ℕ) (w : Walk) (f : Files) (line : ℕ) (arguments : List g.Argument) → length arguments ≡ 3
      → IsCounted w → AreLow s (suc (suc n)) arguments
      → OpenedSoFar w.files f → Extends all (opened (without_files s) f arguments)
      → string_faults s (slice_get arguments 0) ≡ [] → (w.receive && opens_receive (slice_get arguments 0)) ≡ false
      → w.stage ≡ stage.Opens
      → is_opened s w.files (slice_get arguments 1) ≡ false → file_limit w.files (slice_get arguments 1) ≡ []
      → depth_faults s (opens_receive (slice_get arguments 0)) (slice_get arguments 2) ≡ []
      → name_in s need.FileVariable (slice_get arguments 1) ≡ []
      → CallStands p locals s all agreed names files_are names_are n w
      (record {
        number = w.number;
        line = line;
        what = what.Open (trees.file_by (trees.meaning_at s (slice_get arguments 1)));
      })
      (record {
        number = next_number w.number;
        stage = stage_after_open w.stage;
        files = next_file w.files;
        receive = w.receive || opens_receive (slice_get arguments 0);
      })
      (opened (without_files s) f arguments)
  open_by n w f line (string ∷ variable ∷ depth ∷ []) count few low so_far more string_is alone ready fresh limit deep
      named =
      open_named n w f line string variable depth (name_of_argument variable) few (omega (arith, low.0)) so_far
      (extends_on more (opened_grows (without_files s) f (string ∷ variable ∷ depth ∷ []))) more string_is alone ready
      fresh
      (refuted (nat_le 8 w.files) (first_of_argument variable) (Limit program_limit.Files) limit) deep named
  open_by n w f line other count few low so_far more string_is alone ready fresh limit deep named =
      absurd (omega (arith, count))

  open_call : (n : ℕ) (w : Walk) (f : Files) (line : ℕ) (at : At) (arguments : List g.Argument) → IsCounted w
      → AreLow s (suc (suc n)) arguments
      → OpenedSoFar w.files f → Extends all (opened (without_files s) f arguments) → open_faults s w at arguments ≡ []
      → CallStands p locals s all agreed names files_are names_are n w
      (record {
        number = w.number;
        line = line;
        what = what.Open (trees.file_by (trees.meaning_at s (slice_get arguments 1)));
      })
      (record {
        number = next_number w.number;
        stage = stage_after_open w.stage;
        files = next_file w.files;
        receive = w.receive || opens_receive (slice_get arguments 0);
      })
      (opened (without_files s) f arguments)
  open_call n w f line at arguments few low so_far more faultless =
      let deep = split faultless in
      let limit = split deep.0 in
      let named = split limit.0 in
      let string_is = split named.0 in
      let stage_is = split string_is.0 in
      let count = split stage_is.0 in
      let prologue = or_parts (not (takes_open w.stage)) (is_opened s w.files (slice_get arguments 1))
      (refuted (not (takes_open w.stage) || is_opened s w.files (slice_get arguments 1)) at Prologue stage_is.1) in
      open_by n w f line arguments (counted p locals s agreed names at 3 arguments count.1) few low so_far more
      string_is.1
      (refuted (w.receive && opens_receive (slice_get arguments 0)) at Twice count.0)
      (opening w.stage (not-false (takes_open w.stage) prologue.0)) prologue.1 limit.1 deep.1 named.1

  pub call_stand : (n : ℕ) (w : Walk) (f : Files) (head at : At) (name : List ℕ) (arguments : List g.Argument)
      (found : Option System) → IsCounted w
      → suc n ≤ 33 → AreLow s (suc (suc n)) arguments → OpenedSoFar w.files f
      → Extends all (call_files (without_files s) f arguments found)
      → call_faults s w at name arguments found ≡ []
      → CallStands p locals s all agreed names files_are names_are n w
      (record { number = w.number; line = head.place.line; what = call_what s name arguments found })
      (after_call w arguments found) (call_files (without_files s) f arguments found)
  call_stand n w f head at name arguments None few room low so_far more faultless =
      record {
        stands = lone few (call_stands p locals s agreed names n at name arguments faultless room low);
        opened = so_far;
      }
  call_stand n w f head at name arguments (Some system.CheckMonitor) few room low so_far more faultless =
      monitor_stands n w f head.place.line at arguments few room so_far faultless
  call_stand n w f head at name arguments (Some system.Checkpoint) few room low so_far more faultless =
      record { stands = lone few (checkpoint_stands p locals s agreed n arguments faultless room low); opened = so_far }
  call_stand n w f head at name arguments (Some system.Open) few room low so_far more faultless =
      open_call n w f head.place.line at arguments few low so_far more faultless
  call_stand n w f head at name arguments (Some system.ReadUpdate) few room low so_far more faultless =
      record {
        stands = lone few (read_update_stands p locals s agreed names n at arguments faultless low);
        opened = so_far;
      }
  call_stand n w f head at name arguments (Some system.Reply) few room low so_far more faultless =
      record { stands = lone few (reply_stands p locals s agreed names n at arguments faultless low); opened = so_far }
  call_stand n w f head at name arguments (Some system.Stop) few room low so_far more faultless =
      record { stands = lone few (stops room); opened = so_far }
  call_stand n w f head at name arguments (Some system.WriteRead) few room low so_far more faultless =
      record {
        stands = lone few (write_read_stands p locals s agreed names n at arguments faultless low);
        opened = so_far;
      }
