-- What a terminal does that enters, computed.
use Rattle.std.specs.Prelude.{ℕ, ◌+◌, ◌==◌, ℤ, Bool, true, false, List, [], ◌∷◌, slice_get, slice_set, Option, Some}
use Rattle.std.specs.Prelude.{None}
use Rattle.std.specs.Option.{option_map}
use Rattle.tal_tree.specs.declared.act.Act.TheVariants as act
use Rattle.tal_tree.specs.declared.site.Site.{Site}
use Rattle.tal_tree.specs.declared.site.Who.TheVariants as who
use Rattle.world_semantics.specs.plain_semantics.specs.declared.slot.Opener.{Opener}
use Rattle.world_semantics.specs.plain_semantics.specs.Openers.{opener_of}
use Rattle.world_semantics.specs.plain_semantics.specs.Machine.{next_request}
use Rattle.world_semantics.specs.World.{Terminal, World, terminal_node}
use Rattle.world_semantics.specs.Messages.{Asking, sent_at}
use Rattle.world_semantics.specs.Rules.{entered_request}
use Rattle.world_semantics.specs.Running.{Done}

-- a terminal enters a request of these words to its server
abbrev pub entered_done : ℕ → Terminal → World → Opener → List ℤ → Done
entered_done number terminal w opener words = record {
  world = record w {
    requests = entered_request opener terminal words ∷ w.requests;
    terminals = slice_set w.terminals number (record terminal { entered = terminal.entered + 1 });
    kept = act.Enter number ∷ w.kept;
  };
  sendings = sent_at terminal_node (Asking (entered_request opener terminal words) ∷ []);
}

abbrev pub enter_to : ℕ → Terminal → World → Option (List ℤ) → Option Opener → Option Done
enter_to number terminal w words None = None
enter_to number terminal w words (Some opener) = option_map (entered_done number terminal w opener) words

abbrev pub enter_where : Site → ℕ → Terminal → World → Bool → Option Done
enter_where site number terminal w true =
    enter_to number terminal w (next_request site number terminal.entered) (opener_of site (who.Terminal number))
enter_where site number terminal w false = None

abbrev pub enter_at : Site → ℕ → World → Option Terminal → Option Done
enter_at site number w None = None
enter_at site number w (Some terminal) = enter_where site number terminal w (terminal.entered == terminal.printed)

-- the change that a terminal makes that enters its next request; none where it has none left, or awaits a reply
abbrev pub enter_done : Site → ℕ → World → Option Done
enter_done site number w = enter_at site number w (slice_get w.terminals number)
