use Rattle.packet_guards.proofs.Drives.{drive-breaks, program-has-none}
use Rattle.packet_guards.proofs.guards.an_event_of_a_drive_touches_no_packet.Goals as goal

pub returns : goal.returns
returns c = record { breaks = drive-breaks; program = program-has-none }
