-- What the step of a process shows.
use Rattle.std.proofs.Common.{◌≡◌, ◌∙◌, ℕ, List, [], Option, Some, None, refl, ap, slice_get}
use Rattle.process_semantics.specs.declared.point.Point.{Point}
use Rattle.process_semantics.specs.declared.point.Point.TheVariants as points
use Rattle.process_semantics.specs.Process.{point}
use Rattle.tal_tree.specs.declared.site.Site.{Site}
use Rattle.plain_semantics.specs.declared.slot.Opener.{Opener}
use Rattle.plain_semantics.specs.declared.slot.Slot.{Slot}
use Rattle.plain_semantics.specs.declared.slot.Slot.TheVariants.{Empty, Waiting, Taken, Answered}
use Rattle.plain_semantics.specs.Machine.{Plain, PlainProcess, got_made, own_opener, slot_of, step_at, step_made}
use Rattle.plain_machine.specs.Machines.{shown_at, shown_of}

got-quiet : (number : ℕ) (one : PlainProcess) (opener : Option Opener) (plain : Plain) (slot : Option Slot)
    → shown_of (got_made number one opener plain slot) ≡ []
got-quiet number one opener plain None = refl
got-quiet number one opener plain (Some Empty) = refl
got-quiet number one opener plain (Some (Waiting words)) = refl
got-quiet number one opener plain (Some Taken) = refl
got-quiet number one opener plain (Some (Answered words)) = refl

shows-at : (site : Site) (number : ℕ) (one : PlainProcess) (plain : Plain) (at : Point)
    → shown_of (step_at site number one plain at) ≡ shown_at number one at
shows-at site number one plain points.Inner = refl
shows-at site number one plain points.Ask = refl
shows-at site number one plain points.Await =
    got-quiet number one (own_opener site number one) plain (slot_of plain (own_opener site number one))
shows-at site number one plain points.Answer = refl
shows-at site number one plain points.AtCheckpoint = refl
shows-at site number one plain points.Device = refl
shows-at site number one plain points.Take = refl
shows-at site number one plain points.Ended = refl

pub step-shows : (site : Site) (number : ℕ) (one : PlainProcess) (plain : Plain)
    → slice_get plain.processes number ≡ Some one
    → shown_of (step_made site number plain (slice_get plain.processes number))
    ≡ shown_at number one (point one.state)
step-shows site number one plain there =
    ap (λ found. shown_of (step_made site number plain found)) there
    ∙ shows-at site number one plain (point one.state)
