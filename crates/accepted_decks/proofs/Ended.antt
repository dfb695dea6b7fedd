-- A run of an accepted site, by how it ended.
use Rattle.std.proofs.Common.{◌≡◌, ◌<◌, ℕ, true, List, length, Option, reverse, refl, sym, subst}
use Rattle.std.specs.Option.{IsSome}
use Rattle.tal_tree.specs.declared.act.Act.{Act}
use Rattle.tal_tree.specs.declared.site.Site.{Site}
use Rattle.schedule.specs.declared.event.Event.{Event}
use Rattle.schedule.specs.declared.line.Line.{Line}
use Rattle.player.specs.declared.stop.ProcessorStop.{ProcessorStop}
use Rattle.plain_semantics.specs.Machine.{IsNoneLeft, IsPossible, shown_by}
use Rattle.packet_lengths.specs.world_semantics.specs.Kept.{acts_of}
use Rattle.packet_lengths.specs.world_semantics.specs.Shares.{closed}
use Rattle.packet_lengths.specs.world_semantics.specs.World.{World}
use Rattle.agendas.specs.Agendas.{Agenda}
use Rattle.packet_lengths.specs.packet_wires.specs.Idle.{is_idle}
use Rattle.packet_lengths.specs.packet_wires.specs.Play.{Packeted}
use Rattle.packet_lengths.specs.packet_wires.specs.Runs.{IsPlayed}
use Rattle.packet_lengths.specs.world_copies.specs.Closed.{closed_world}
use Rattle.packet_lengths.specs.schedule_loop.specs.Ends.{EndsBy, Plays}
use Rattle.packet_lengths.specs.schedule_loop.specs.declared.ran.Ending.{Ending}
use Rattle.packet_lengths.specs.schedule_loop.specs.declared.ran.Ending.TheVariants.{Idle, Cut, Second, Lost}
use Rattle.packet_lengths.specs.packet_runs.specs.Ends.{IsRunOf}
use Rattle.packet_lengths.specs.packet_runs.specs.Runs.{course_on, packet_rules}
use Rattle.packet_lengths.specs.packet_runs.specs.declared.ran.Ran.{Ran}
use Rattle.accepted_decks.specs.Left.{KeepsPossibleActs}

-- what a world keeps and has shown, by how the run to it ended
pub record Keeps (site : Site) (w : World) (ending : Ending) : Type 0 where
  pub possible : IsPossible site (acts_of w)
  pub shown : reverse w.shown ≡ shown_by site (acts_of w)
  pub none : ending ≡ Idle → IsNoneLeft site (acts_of w)

none-possible : (site : Site) (acts : List Act) → IsNoneLeft site acts → IsPossible site acts
none-possible site acts none = subst IsSome (sym none.1) refl

-- what is known of states that events were played to, on this site
pub record Known (site : Site) : Type 0 where
  pub possible : (events : List Event) (s : Packeted) → length events < 4294967295 → IsPlayed site events s
      → IsPossible site (acts_of s.world)
  pub shown : (events : List Event) (s : Packeted) → length events < 4294967295 → IsPlayed site events s
      → shown_by site (acts_of s.world) ≡ reverse s.world.shown
  pub none : (events : List Event) (s : Packeted) → length events < 4294967295 → IsPlayed site events s
      → is_idle s ≡ true → IsNoneLeft site (closed s.world)
  pub closed_shown : (events : List Event) (s : Packeted) → length events < 4294967295 → IsPlayed site events s
      → is_idle s ≡ true
      → shown_by site (closed s.world) ≡ reverse s.world.shown
  pub schedule : (lines : List Line) (stop : Option ProcessorStop) (events : List Event) (agenda : Agenda)
      (s : Packeted) → Plays packet_rules (course_on site lines stop) events agenda s
      → IsPlayed site events s

module _ (site : Site) (known : Known site) (lines : List Line) (stop : Option ProcessorStop) (events : List Event)
    (few : length events < 4294967295) where
  keeps-on : (s : Packeted) (ending : Ending) → IsPlayed site events s → (ending ≡ Idle → ⊥)
      → Keeps site s.world ending
  keeps-on s ending played goes_on = record {
    possible = known.possible events s few played;
    shown = sym (known.shown events s few played);
    none = λ idle. absurd (goes_on idle);
  }

  keeps-closed : (s : Packeted) → IsPlayed site events s → is_idle s ≡ true → Keeps site (closed_world s.world) Idle
  keeps-closed s played idle =
      let none : IsNoneLeft site (closed s.world) = known.none events s few played idle in
      record {
        possible = none-possible site (closed s.world) none;
        shown = sym (known.closed_shown events s few played idle);
        none = λ same. none;
      }

  pub keeps-ended : (s left : Packeted) (asked : ℕ) (ending : Ending)
      → EndsBy packet_rules (course_on site lines stop) events s left asked ending → Keeps site left.world ending
  keeps-ended s left asked Idle ends =
      subst (λ (one : Packeted). Keeps site one.world Idle) (sym ends.2)
      (keeps-closed s (known.schedule lines stop events ends.0.agenda s ends.0.played) ends.1)
  keeps-ended s left asked Cut ends =
      subst (λ (one : Packeted). Keeps site one.world Cut) (sym ends.2)
      (keeps-on s Cut (known.schedule lines stop events ends.0.agenda s ends.0.played) (λ e. cc))
  keeps-ended s left asked (Second processor) ends =
      subst (λ (one : Packeted). Keeps site one.world (Second processor)) (sym ends.1)
      (keeps-on s (Second processor) (known.schedule lines stop events ends.0.agenda s ends.0.played) (λ e. cc))
  keeps-ended s left asked (Lost process) ends =
      subst (λ (one : Packeted). Keeps site one.world (Lost process)) (sym ends.1)
      (keeps-on s (Lost process) (known.schedule lines stop events ends.0.agenda s ends.0.played) (λ e. cc))

pub run-keeps : (site : Site) (lines : List Line) (stop : Option ProcessorStop) (ran : Ran) → Known site
    → IsRunOf site lines stop ran → KeepsPossibleActs site ran
run-keeps site lines stop ran known is =
    let keeps = keeps-ended site known lines stop is.events is.few is.state ran.machine.state ran.asked ran.ending
    is.ends in
    record { possible = keeps.possible; shown = keeps.shown; none = keeps.none }
