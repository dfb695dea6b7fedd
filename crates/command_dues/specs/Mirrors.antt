-- How the drives of mirrored discs stand at the end of a run. Our own rule.
use Rattle.std.specs.Prelude.{ℕ, ◌+◌, true, false, List, [], ◌∷◌, ◌++◌, slice_get}
use Rattle.std.specs.Option.{unwrap_or}
use Rattle.report_judge.specs.trace_print.specs.mirror.specs.States.{drive_state_at}
use Rattle.report_judge.specs.trace_print.specs.mirror.specs.declared.state.DriveState.{DriveState}
use Rattle.report_judge.specs.trace_print.specs.declared.mirrors.MirrorDrives.{MirrorDrives}
use Rattle.tal_tree.specs.declared.site.Kind.{Kind}
use Rattle.tal_tree.specs.declared.site.Kind.TheVariants as kind
use Rattle.tal_tree.specs.declared.site.ProcessSpec.{ProcessSpec}

-- the two drives of a process of this kind and number, if it is a mirrored disc
abbrev pub mirror_at : ℕ → Kind → List DriveState → List MirrorDrives
mirror_at number (kind.Disc sectors true) states =
    record { process = number; first = drive_state_at states 0; second = drive_state_at states 1 } ∷ []
mirror_at number (kind.Disc sectors false) states = []
mirror_at number (kind.Pair program) states = []

-- those of the mirrored discs among processes from a number on, by how the drives of each process stand
abbrev pub mirrors_from : ℕ → List ProcessSpec → List (List DriveState) → List MirrorDrives
mirrors_from number [] drives = []
mirrors_from number (spec ∷ specs) drives =
    mirror_at number spec.what (unwrap_or (slice_get drives number) []) ++ mirrors_from (number + 1) specs drives
