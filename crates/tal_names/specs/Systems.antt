-- The system's calls by their names.
use Rattle.std.specs.Prelude.{ℕ, List, Option, Some, None, codes, if◌then◌else◌}
use Rattle.tal_names.specs.declared.system.System.{System}
use Rattle.tal_names.specs.declared.system.System.TheVariants.{CheckMonitor, Checkpoint, Open, ReadUpdate, Reply, Stop}
use Rattle.tal_names.specs.declared.system.System.TheVariants.{WriteRead}
use Rattle.tal_names.specs.Names.{same}

-- the system's call that has a name: nothing that is declared hides it
abbrev pub system_of : List ℕ → Option System
system_of name =
    if same name (codes "CHECKMONITOR") then Some CheckMonitor else
    if same name (codes "CHECKPOINT") then Some Checkpoint else
    if same name (codes "OPEN") then Some Open else
    if same name (codes "READUPDATE") then Some ReadUpdate else
    if same name (codes "REPLY") then Some Reply else
    if same name (codes "STOP") then Some Stop else
    if same name (codes "WRITEREAD") then Some WriteRead else
    None
