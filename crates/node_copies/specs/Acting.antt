-- What a copy of a process does by itself where it runs, and what it leaves around it: the device, and the records of
-- what happened. The rules are those of the world of copies.
use Rattle.std.specs.Prelude.{◌≡◌, ℕ, List, [], ◌∷◌, Option, Some, None, slice_get}
use Rattle.std.specs.Option.{option_and_then}
use Rattle.gd_words.specs.declared.message.Request.{Request}
use Rattle.tal_tree.specs.declared.site.Site.{Site}
use Rattle.process_semantics.specs.declared.point.Point.{Point}
use Rattle.message_wires.specs.plain_semantics.specs.declared.slot.Opener.{Opener}
use Rattle.disc_device.specs.Sectors.{Stored}
use Rattle.kept_acts.specs.world_semantics.specs.Messages.{sent_at}
use Rattle.kept_acts.specs.world_semantics.specs.Own.{Around, around_with}
use Rattle.kept_acts.specs.world_semantics.specs.Running.{Own, copy_acted, own_at, records_acted}
use Rattle.kept_acts.specs.world_semantics.specs.Records.{Records}
use Rattle.node_copies.specs.Seen.{CopyAndDepths, step_sendings}
use Rattle.node_copies.specs.declared.step.StepOutcome.{StepOutcome}

-- a copy with the sectors of its process's device and the records of what happened
pub record Scene : Type 0 where
  pub one : CopyAndDepths
  pub sectors : List Stored
  pub records : Records

-- what an act of the copy finds around its core
abbrev pub around_in : Scene → Around
around_in scene = around_with scene.one.copy.waiting scene.sectors scene.records

-- the act that the copy of a process of a site can do at this point
abbrev pub own_in : Site → ℕ → Scene → Point → Option Own
own_in site number scene stands = own_at site number scene.one.copy.core (around_in scene) stands

-- the step that is told is this act of the copy, or none: what it sends, and the copy, the sectors and the records
-- after it
abbrev pub HasActed : ℕ → Option Own → StepOutcome → Scene → Scene → Type 0
HasActed number None step before after = (step_sendings step ≡ None) × (after ≡ before)
HasActed number (Some own) step before after =
    (step_sendings step ≡ Some (sent_at before.one.copy.processor own.messages))
    × ((after.one ≡ record before.one { copy = copy_acted number before.records.kept own before.one.copy })
    × ((after.sectors ≡ own.after.sectors) × (after.records
    ≡ records_acted number before.records.kept own before.one.copy)))

-- the opener that a file of a process is, among those of all its files
abbrev pub opener_among : List (Option Opener) → ℕ → Option Opener
opener_among files file = option_and_then (λ opener. opener) (slice_get files file)

-- the request that is sent, if there is one
abbrev pub requests_in : Option Request → List Request
requests_in None = []
requests_in (Some request) = request ∷ []
