-- A process stays of its kind.
use Rattle.std.proofs.Common.{◌≡◌, ℕ, ◌+◌, ℤ, List, [], length, refl, sym, ◌∙◌}
use Rattle.std.proofs.lemmas.List.{length-map, length-replicate, length-set}
use Rattle.tal_tree.specs.declared.site.Kind.{Kind}
use Rattle.tal_tree.specs.declared.site.Kind.TheVariants as kind
use Rattle.tal_tree.specs.declared.site.ProcessSpec.{ProcessSpec}
use Rattle.tal_tree.specs.declared.site.Site.{Site}
use Rattle.world_semantics.specs.process_semantics.specs.Process as process
use Rattle.world_semantics.specs.process_semantics.specs.Process.{ProcessState, Runs, Serves}
use Rattle.world_semantics.specs.Core.{Core, Deed, goes, checkpoints, takes, asks, gets, answers, acts, next_on}
use Rattle.tal_tree.specs.declared.program.Program.{Program}
use Rattle.world_semantics.specs.World.{device_at_boot}
use Rattle.tal_tree.specs.declared.site.OpenerSpec.{OpenerSpec}
use Rattle.world_semantics.specs.checkpoint_image.specs.declared.receive.OpenerBlock.{OpenerBlock}
use Rattle.world_semantics.specs.plain_semantics.specs.Openers.{files_of, openers_of}
use Rattle.process_histories.specs.Histories.{HasDone, nothing_done, one_more, kind_of, kind_without_mirror}

start-kind : (what : Kind) → kind_of (process.start_of what) ≡ kind_without_mirror what
start-kind (kind.Disc sectors mirrored) = refl
start-kind (kind.Pair program) = refl

inner-kind : (s : ProcessState) → kind_of (process.after_inner s) ≡ kind_of s
inner-kind (Runs program s) = refl
inner-kind (Serves sectors s) = refl

checkpointed-kind : (s : ProcessState) → kind_of (process.after_checkpoint s) ≡ kind_of s
checkpointed-kind (Runs program s) = refl
checkpointed-kind (Serves sectors s) = refl

took-kind : (s : ProcessState) (words : List ℤ) → kind_of (process.after_took s words) ≡ kind_of s
took-kind (Runs program s) words = refl
took-kind (Serves sectors s) words = refl

asked-kind : (s : ProcessState) → kind_of (process.after_asked s) ≡ kind_of s
asked-kind (Runs program s) = refl
asked-kind (Serves sectors s) = refl

got-kind : (s : ProcessState) (words : List ℤ) → kind_of (process.after_got s words) ≡ kind_of s
got-kind (Runs program s) words = refl
got-kind (Serves sectors s) words = refl

answered-kind : (s : ProcessState) → kind_of (process.after_answered s) ≡ kind_of s
answered-kind (Runs program s) = refl
answered-kind (Serves sectors s) = refl

device-kind : (s : ProcessState) (found : List ℤ) → kind_of (process.after_device s found) ≡ kind_of s
device-kind (Runs program s) found = refl
device-kind (Serves sectors s) found = refl

-- a kind has the sectors and the files that it has with no drives told apart
pub same-device : (what : Kind) → device_at_boot (kind_without_mirror what) ≡ device_at_boot what
same-device (kind.Disc sectors mirrored) = refl
same-device (kind.Pair program) = refl

pub same-files : (what : Kind) → files_of (kind_without_mirror what) ≡ files_of what
same-files (kind.Disc sectors mirrored) = refl
same-files (kind.Pair program) = refl

-- and it is that of a program exactly then
pub same-pair : (what : Kind) (program : Program) → kind.Pair program ≡ kind_without_mirror what
    → what ≡ kind.Pair program
same-pair (kind.Disc sectors mirrored) program is = absurd (cc)
same-pair (kind.Pair other) program is = sym is

pub done-kind : {site : Site} {number : ℕ} {spec : ProcessSpec} {deeds : List Deed} {core : Core}
    → HasDone site number spec deeds core → kind_of core.state ≡ kind_without_mirror spec.what
done-kind {spec = spec} nothing_done = start-kind spec.what
done-kind (one_more {before = core} done (goes at)) = inner-kind core.state ∙ done-kind done
done-kind (one_more {before = core} done (checkpoints at)) = checkpointed-kind core.state ∙ done-kind done
done-kind (one_more {before = core} done (takes {words = words} block at there)) =
    took-kind core.state words ∙ done-kind done
done-kind (one_more {before = core} done (asks at file words)) = asked-kind core.state ∙ done-kind done
done-kind (one_more {before = core} done (gets {words = words} at file)) = got-kind core.state words ∙ done-kind done
done-kind (one_more {before = core} done (answers opener block at hand known there words)) =
    answered-kind core.state ∙ done-kind done
done-kind (one_more {before = core} done (acts {found = found} at call)) = device-kind core.state found ∙ done-kind done

abbrev first_block : OpenerBlock
first_block = record { taken = 0; kept = [] }

module _ {site : Site} {number : ℕ} {spec : ProcessSpec} where
  pub files-same : {deeds : List Deed} {core : Core} → HasDone site number spec deeds core
      → length core.next ≡ length (files_of spec.what)
  files-same nothing_done = length-replicate (length (files_of spec.what)) 1
  files-same (one_more done (goes at)) = files-same done
  files-same (one_more done (checkpoints at)) = files-same done
  files-same (one_more done (takes block at there)) = files-same done
  files-same (one_more {before = core} done (asks {file = file} at named said)) =
      length-set core.next file (next_on core file + 1) ∙ files-same done
  files-same (one_more done (gets at named)) = files-same done
  files-same (one_more done (answers opener block at hand known there said)) = files-same done
  files-same (one_more done (acts at call)) = files-same done

  pub openers-same : {deeds : List Deed} {core : Core} → HasDone site number spec deeds core
      → length core.receive.openers ≡ length (openers_of site number)
  openers-same nothing_done = length-map (openers_of site number) (λ (opener : OpenerSpec). first_block)
  openers-same (one_more done (goes at)) = openers-same done
  openers-same (one_more done (checkpoints at)) = openers-same done
  openers-same (one_more {before = core} done (takes {place = place} block at there)) =
      length-set core.receive.openers place _ ∙ openers-same done
  openers-same (one_more done (asks at named said)) = openers-same done
  openers-same (one_more done (gets at named)) = openers-same done
  openers-same (one_more {before = core} done (answers {place = place} opener block at hand known there said)) =
      length-set core.receive.openers place _ ∙ openers-same done
  openers-same (one_more done (acts at call)) = openers-same done
