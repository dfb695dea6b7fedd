-- What a process has done: its deeds one after the other, the newest first.
use Rattle.std.specs.Prelude.{ℕ, false, List, [], ◌∷◌}
use Rattle.tal_tree.specs.declared.site.Kind.{Kind}
use Rattle.tal_tree.specs.declared.site.Kind.TheVariants as kind
use Rattle.tal_tree.specs.declared.site.ProcessSpec.{ProcessSpec}
use Rattle.tal_tree.specs.declared.site.Site.{Site}
use Rattle.world_semantics.specs.process_semantics.specs.Process.{ProcessState, Runs, Serves}
use Rattle.world_semantics.specs.plain_semantics.specs.Openers.{openers_of}
use Rattle.world_semantics.specs.Core.{Core, Deed, Advances, core_at_boot}

-- a process that did these deeds from its beginning has this core
pub data HasDone (site : Site) (number : ℕ) (spec : ProcessSpec) : List Deed → Core → Type 0 where
  nothing_done : HasDone site number spec [] (core_at_boot site number spec)
  one_more : {deeds : List Deed} {deed : Deed} {before after : Core} → HasDone site number spec deeds before
      → Advances (openers_of site number) before deed after → HasDone site number spec (deed ∷ deeds) after

-- a kind of process, where no drives are told apart: those of a mirrored disc are no part of what the process does
abbrev pub kind_without_mirror : Kind → Kind
kind_without_mirror (kind.Disc sectors mirrored) = kind.Disc sectors false
kind_without_mirror (kind.Pair program) = kind.Pair program

-- what kind of process a state is of
abbrev pub kind_of : ProcessState → Kind
kind_of (Runs program s) = kind.Pair program
kind_of (Serves sectors s) = kind.Disc sectors false
