-- The line of how the drives of a mirrored disc stand. Our own rule.
use Rattle.std.specs.Prelude.{List, ℕ, [], ◌∷◌, ◌++◌, flat_map, codes}
use Rattle.std.specs.Fmt.{decimal}
use Rattle.mirror.specs.declared.state.DriveState.{DriveState}
use Rattle.mirror.specs.declared.state.DriveState.TheVariants.{Working, Failed, Reviving}
use Rattle.tal_tree.specs.declared.site.Site.{Site}
use Rattle.trace_print.specs.ShownLine.{process_name}
use Rattle.trace_print.specs.declared.mirrors.MirrorDrives.{MirrorDrives}

-- how a drive stands: `working`, `failed`, or `reviving` and how many sectors were copied
abbrev pub state_text : DriveState → List ℕ
state_text Working = codes "working"
state_text Failed = codes "failed"
state_text (Reviving next) = codes "reviving " ++ decimal next

-- `M NAME state state`
abbrev pub mirror_line : Site → MirrorDrives → List ℕ
mirror_line site drives =
    codes "M " ++ process_name site drives.process ++ codes " " ++ state_text drives.first ++ codes " "
    ++ state_text drives.second ++ 10 ∷ []

-- the lines of mirrored discs, in order
abbrev pub mirror_lines : Site → List MirrorDrives → List ℕ
mirror_lines site drives = flat_map (mirror_line site) drives
