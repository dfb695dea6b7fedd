-- What an event of a drive makes, computed.
use Rattle.std.proofs.Common.{◌≡◌, refl}
use Rattle.std.specs.Int.{int_wrap}
use denote.Hole.Carrier.{shown, out}
use Rattle.tal_tree.specs.declared.statement.What.{out-What}
use Rattle.tal_tree.specs.declared.statement.What.TheBlock.{shown-the_row-Statement-0}
use Rattle.schedule.specs.declared.event.DriveChange.TheVariants.{Break}
use Rattle.schedule.specs.declared.event.Event.TheVariants as event
use Rattle.machine_states.specs.States.{Makes, Skips}
use Rattle.packet_wires.specs.Play.{play}
use Rattle.packet_guards.specs.States.{laden, one_drive_failed, two_drives}

pub drive-breaks : play two_drives (event.Drive (record { process = 0; drive = 1; change = Break }))
    ≡ Makes one_drive_failed
unfolding out-What shown-the_row-Statement-0 shown out int_wrap
drive-breaks = refl

pub program-has-none : play laden (event.Drive (record { process = 0; drive = 1; change = Break })) ≡ Skips
unfolding out-What shown-the_row-Statement-0 shown out int_wrap
program-has-none = refl
