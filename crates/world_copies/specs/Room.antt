-- What a change of the world needs, so that each number that it raises has a successor, and each opener is there. Our
-- own rule.
use Rattle.std.specs.Prelude.{◌≡◌, ℕ, List, slice_get, Some}
use Rattle.gd_words.specs.declared.message.Request.{Request}
use Rattle.tal_tree.specs.declared.site.Site.{Site}
use Rattle.world_semantics.specs.declared.role.Role.TheVariants.{Watching}
use Rattle.world_semantics.specs.declared.which.Which.{Which}
use Rattle.world_semantics.specs.World.{Pair, copy_of}
use Rattle.world_semantics.specs.Messages.{Message, Asking}
use Rattle.process_copies.specs.computed_changes.specs.Laws.{NamesOpener}
use Rattle.process_copies.specs.message_wires.specs.HasRoom.{CopyHasRoom, PairHasRoom}

-- of a process at a mark: each copy that watches has room, since only such a copy takes over. A copy that took over
-- acts, and the other one keeps its numbers, so this lasts from one mark of a tick to the next
abbrev pub WatchersHaveRoom : Pair → Type 0
WatchersHaveRoom pair = (k : Which) → (copy_of k pair).role ≡ Watching → CopyHasRoom (copy_of k pair)

-- of each process at a mark
abbrev pub AllWatchersHaveRoom : List Pair → Type 0
AllWatchersHaveRoom pairs = (number : ℕ) (pair : Pair) → slice_get pairs number ≡ Some pair → WatchersHaveRoom pair

-- of each process where a processor is loaded again: both copies have room, since the eras rise
abbrev pub AllHaveRoom : List Pair → Type 0
AllHaveRoom pairs = (number : ℕ) (pair : Pair) → slice_get pairs number ≡ Some pair → PairHasRoom pair

-- of a message that is handed over: a request names an opener of the process that it is for
abbrev pub NamesItsOpener : Site → Message → Type 0
NamesItsOpener site message =
    (request : Request) → message ≡ Asking request → NamesOpener site request.process (Asking request)
