-- What a program did since its last checkpoint, and what is due on a path to where it stands.
use Rattle.std.specs.Prelude.{◌≡◌, ◌≤◌, ℕ, ◌+◌, ℤ, true, false, List, ◌∷◌, ◌++◌, length}
use Rattle.gd_words.specs.Members.{is_among}
use Rattle.tal_tree.specs.declared.program.Program.{Program}
use Rattle.tal_tree.specs.declared.site.ProcessSpec.{ProcessSpec}
use Rattle.tal_tree.specs.declared.site.Site.{Site}
use Rattle.process_semantics.specs.Process.{Runs}
use Rattle.process_semantics.specs.State.{ProgramState, words_of}
use Rattle.path_steps.specs.path_semantics.specs.Break.{asked_count}
use Rattle.path_steps.specs.path_semantics.specs.Path.{Leads}
use Rattle.path_steps.specs.path_semantics.specs.declared.dues.Dues.{Dues}
use Rattle.path_steps.specs.Step.{stand_of}
use Rattle.checkpoint_laws.specs.world_semantics.specs.Core.{Core, Deed, Took}
use Rattle.process_histories.specs.Histories.{HasDone}
use Rattle.process_histories.specs.Words.{requests_on, awaits_on, one_if}
use Rattle.discipline_laws.specs.Disciplined.{AreUncheckpointed}

-- some path leads to where the program stands, on which all is due that differs from any of its states since its last
-- checkpoint: each global whose words were others then; each file as often as it was asked since, but for the request
-- that is awaited; and a request, if one was taken since
pub record IsCovered (site : Site) (number : ℕ) (spec : ProcessSpec) (program : Program) (deeds : List Deed)
    (s : ProgramState) : Type 0 where
  pub dues : Dues
  pub path : List ℕ
  pub leads : Leads program path (stand_of dues s)
  pub globals : (since before : List Deed) (core : Core) (old : ProgramState) → deeds ≡ since ++ before
      → AreUncheckpointed since
      → HasDone site number spec before core → core.state ≡ Runs program old → (item : ℕ)
      → is_among item dues.globals ≡ false
      → words_of s.globals item ≡ words_of old.globals item
  pub asked : (since before : List Deed) (file : ℕ) → deeds ≡ since ++ before → AreUncheckpointed since
      → length (requests_on file since) ≤ asked_count file dues + one_if (awaits_on (Runs program s) file)
  pub read : (since before : List Deed) (place : ℕ) (words : List ℤ) → deeds ≡ since ++ Took place words ∷ before
      → AreUncheckpointed since
      → dues.read ≡ true
