-- What a reply does that comes to a copy of a process or to a terminal, computed.
use Rattle.std.specs.Prelude.{ℕ, ◌+◌, ◌==◌, ◌&&◌, ℤ, Bool, true, false, List, [], ◌∷◌, slice_get, slice_set, Option}
use Rattle.std.specs.Prelude.{Some, None}
use Rattle.tal_tree.specs.gd_words.specs.declared.message.Reply.{Reply}
use Rattle.tal_tree.specs.declared.act.Act.{Act}
use Rattle.tal_tree.specs.declared.act.Act.TheVariants as act
use Rattle.tal_tree.specs.declared.act.Shown.TheVariants as shown
use Rattle.tal_tree.specs.declared.site.Site.{Site}
use Rattle.tal_tree.specs.declared.site.Who.TheVariants as who
use Rattle.world_semantics.specs.process_semantics.specs.declared.point.Point.{Point}
use Rattle.world_semantics.specs.process_semantics.specs.declared.point.Point.TheVariants as point
use Rattle.world_semantics.specs.process_semantics.specs.Process as process
use Rattle.world_semantics.specs.plain_semantics.specs.declared.slot.Opener.{Opener}
use Rattle.world_semantics.specs.plain_semantics.specs.Openers.{opener_of}
use Rattle.world_semantics.specs.declared.role.Role.{Role}
use Rattle.world_semantics.specs.declared.role.Role.TheVariants.{Acting, Watching, Blank, Gone}
use Rattle.world_semantics.specs.declared.which.Which.{Which}
use Rattle.world_semantics.specs.Core.{Core, core_getting, next_on}
use Rattle.world_semantics.specs.World.{Copy, Pair, Terminal, World, copy_of, with_copy}
use Rattle.world_semantics.specs.Records.{Records}
use Rattle.world_semantics.specs.Running.{Done, Stepped}
use Rattle.world_semantics.specs.Shares.{after_entering, share_after_act, share_of}

-- whether a reply goes to the opener that stands here
abbrev pub is_to : Option Opener → Reply → Bool
is_to None reply = false
is_to (Some opener) reply = opener.server == reply.process && opener.place == reply.opener

-- At a copy

-- whether a process that stands at this point awaits a reply: it is to the file on which the process asked, and has the
-- number of the request that was asked last on that file
abbrev pub awaits : Site → ℕ → Core → Reply → Point → Bool
awaits site number core reply point.Await =
    is_to (opener_of site (who.File number (process.asked_file core.state))) reply
    && reply.number + 1 == next_on core (process.asked_file core.state)
awaits site number core reply stands = false

-- a copy of a process after it got the words of the reply that it awaits, which is a step of the process, and the kept
-- acts then
abbrev pub copy_got : ℕ → List ℤ → List Act → Copy → Copy
copy_got number words kept copy =
    record (after_entering number (act.Step number) kept copy) { core = core_getting words copy.core }

abbrev pub kept_got : ℕ → List Act → Copy → List Act
kept_got number kept copy = (share_after_act number (act.Step number) kept (share_of copy)).kept

abbrev pub got_step : ℕ → Which → Pair → Records → Reply → Stepped
got_step number k pair records reply = record {
  pair = with_copy k (copy_got number reply.words records.kept (copy_of k pair)) pair;
  records = record records { kept = kept_got number records.kept (copy_of k pair) };
  sendings = [];
}

abbrev pub reply_step_where : ℕ → Which → Pair → Records → Reply → Bool → Option Stepped
reply_step_where number k pair records reply true = Some (got_step number k pair records reply)
reply_step_where number k pair records reply false = None

-- a reply that comes to a copy that acts and awaits it is got
abbrev pub reply_step : Site → ℕ → Which → Pair → Records → Reply → Role → Option Stepped
reply_step site number k pair records reply Acting =
    reply_step_where number k pair records reply
    (awaits site number (copy_of k pair).core reply (process.point (copy_of k pair).core.state))
reply_step site number k pair records reply Watching = None
reply_step site number k pair records reply Blank = None
reply_step site number k pair records reply Gone = None

-- At a terminal

-- whether a terminal awaits a reply: it is to the terminal, and has the number of the request that was entered last, to
-- which none is printed yet
abbrev pub awaits_at : Site → ℕ → Terminal → Reply → Bool
awaits_at site number terminal reply =
    is_to (opener_of site (who.Terminal number)) reply
    && (terminal.entered == terminal.printed + 1 && reply.number == terminal.entered)

abbrev pub printed_where : ℕ → Reply → Terminal → World → Bool → Option Done
printed_where number reply terminal w true = Some (record {
  world = record w {
    terminals = slice_set w.terminals number (record terminal { printed = terminal.printed + 1 });
    shown = shown.Reply number reply.number reply.words ∷ w.shown;
    kept = act.Print number ∷ w.kept;
  };
  sendings = [];
})
printed_where number reply terminal w false = None

-- a reply that comes to a terminal that awaits it is printed
abbrev pub printed_done : Site → ℕ → Reply → World → Option Terminal → Option Done
printed_done site number reply w None = None
printed_done site number reply w (Some terminal) =
    printed_where number reply terminal w (awaits_at site number terminal reply)

abbrev pub printed_at : Site → ℕ → Reply → World → Bool → Option Done
printed_at site number reply w true = printed_done site number reply w (slice_get w.terminals number)
printed_at site number reply w false = None
