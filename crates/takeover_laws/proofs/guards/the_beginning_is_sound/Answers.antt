use Rattle.takeover_laws.proofs.Beginning.{first-sound, beginning-keeps}
use Rattle.takeover_laws.proofs.guards.the_beginning_is_sound.Goals as goal

pub returns : goal.returns
returns c = record { process = first-sound; world = beginning-keeps }
