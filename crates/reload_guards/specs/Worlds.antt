-- A disc in two processors that the guards name: it loses its first copy, which is loaded again, and gets everything.
use Rattle.std.specs.Prelude.{ℕ, pos, false, List, [], ◌∷◌, map}
use Rattle.gd_words.specs.declared.message.Request.{Request}
use Rattle.tal_tree.specs.declared.act.Act.{Act}
use Rattle.tal_tree.specs.declared.act.Act.TheVariants.{Step, Enter}
use Rattle.tal_tree.specs.declared.site.Kind.TheVariants as kind
use Rattle.checkpoint_image.specs.declared.message.ImageMessage.{ImageMessage}
use Rattle.checkpoint_image.specs.declared.message.TakenMessage.{TakenMessage}
use Rattle.world_semantics.specs.Core.{Core, core_at_boot, carried_whole}
use Rattle.world_semantics.specs.Examples.{disc_site}
use Rattle.world_semantics.specs.Messages.{Checkpointing, Taking}
use Rattle.world_semantics.specs.World.{Copy, Pair, World, boot}
use Rattle.world_semantics.specs.Running.{run_done, world_after}
use Rattle.computed_changes.specs.Handed.{handed_done}
use Rattle.computed_changes.specs.Stopped.{stopped_world, world_at_down, reloaded_world}
use Rattle.letters.specs.Routes.{Letter}

abbrev pub begun : World
begun = boot disc_site

-- its first copy's processor has stopped
abbrev pub stopped : World
stopped = stopped_world 0 begun

-- the node of the other copy has marked it, and that one takes over
abbrev pub marked_once : World
marked_once = (world_at_down 1 0 stopped).world

-- so has the node of the terminals
abbrev pub marked : World
marked = (world_at_down 16 0 marked_once).world

-- the processor was loaded again
abbrev pub loaded : World
loaded = reloaded_world disc_site 0 0 marked

-- the same of the second copy's processor, whose stop leaves the first one acting
abbrev pub loaded_second : World
loaded_second =
    reloaded_world disc_site 1 0 (world_at_down 16 1 (world_at_down 0 1 (stopped_world 1 begun)).world).world

-- the disc runs, which sends everything
abbrev pub everything_sent : World
everything_sent = world_after loaded (run_done disc_site 0 loaded)

-- what it sends
abbrev pub core : Core
core = core_at_boot disc_site 0 (record { name = []; primary = 0; backup = 1; what = kind.Disc 4 false })

abbrev pub everything : ImageMessage
everything = record { process = 0; era = 2; number = 1; image = carried_whole core }

abbrev pub its_taken : TakenMessage
its_taken = record { process = 0; era = 2; number = 1 }

-- that comes to the blank copy
abbrev pub applied : World
applied = world_after everything_sent (handed_done disc_site 0 (Checkpointing everything) everything_sent)

-- that it was taken comes back
abbrev pub told : World
told = world_after applied (handed_done disc_site 1 (Taking its_taken) applied)

-- the disc runs, and the sending is over
abbrev pub over : World
over = world_after told (run_done disc_site 0 told)

abbrev pub firsts : World → List Copy
firsts w = map (λ (pair : Pair). pair.first) w.processes

abbrev pub seconds : World → List Copy
seconds w = map (λ (pair : Pair). pair.second) w.processes

-- what the terminal asks the disc
abbrev pub request : Request
request = record { process = 0; opener = 0; number = 1; words = pos 2 ∷ pos 0 ∷ pos 5 ∷ [] }

-- kept acts of which three are those of process 0
abbrev pub three_kept : List Act
three_kept = Step 0 ∷ Enter 0 ∷ Step 0 ∷ Step 1 ∷ Step 0 ∷ []

-- the disc has sent everything where it has done so many of those and holds these acts
abbrev pub sent_from : ℕ → List Act → World
sent_from position held = record everything_sent {
  kept = three_kept;
  processes = map (λ (pair : Pair). record pair { second = record pair.second { position = position; held = held } })
      everything_sent.processes;
}

-- and that comes to the blank copy
abbrev pub applied_from : ℕ → List Act → World
applied_from position held =
    world_after (sent_from position held)
    (handed_done disc_site 0 (Checkpointing everything) (sent_from position held))

abbrev pub letter : ℕ → ℕ → Letter
letter sender receiver = record { sender = sender; receiver = receiver; message = Taking its_taken }
