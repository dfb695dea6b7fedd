-- What the steps of a copy do to its core, with the depths of its openers. What each step makes of a core stands with
-- the world of copies.
use Rattle.std.specs.Option.{option_map}
use Rattle.std.specs.Prelude.{ℕ, List, map, slice_get, Option, Some, None}
use Rattle.gd_words.specs.declared.message.Request.{Request}
use Rattle.tal_tree.specs.declared.site.OpenerSpec.{OpenerSpec}
use Rattle.process_semantics.specs.Process as process
use Rattle.checkpoint_image.specs.declared.receive.OpenerBlock.{OpenerBlock}
use Rattle.computed_changes.specs.sync_ids.specs.Tables.{last_taken}
use Rattle.computed_changes.specs.world_semantics.specs.Core.{Core, core_asked, core_replied, core_taken, next_on}
use Rattle.process_control.specs.declared.told.Asking.{Asking}
use Rattle.process_control.specs.declared.told.Answering.{Answering}

-- a core, and how many replies are kept at most of each opener of its process
pub record CoreAndDepths : Type 0 where
  pub core : Core
  pub depths : List ℕ

-- a core with the depths of these openers
abbrev pub with_depths : List OpenerSpec → Core → CoreAndDepths
with_depths openers core = record { core = core; depths = map (λ opener. opener.depth) openers }

-- the core after a request was taken; none where its opener isn't there
abbrev pub core_taking : Request → Core → Option Core
core_taking request core =
    option_map (λ block. core_taken request.opener request.words block core)
    (slice_get core.receive.openers request.opener)

-- A request that is asked

-- what is asked: the file, the number of the request on it, and the words
abbrev pub asking_of : Core → Asking
asking_of core = record {
  file = process.asked_file core.state;
  number = next_on core (process.asked_file core.state);
  words = process.asked_words core.state;
}

abbrev pub core_asking : Core → Core
core_asking core = core_asked (process.asked_file core.state) core

-- A request that is answered

abbrev pub answering_at : Core → Option ℕ → Option Answering
answering_at core None = None
answering_at core (Some place) =
    Some (record { opener = place; number = last_taken core.receive place; words = process.answer_of core.state })

-- what is answered: the opener whose request is in hand, the number last taken from it, and the words; none where
-- nothing is in hand
abbrev pub answering_of : Core → Option Answering
answering_of core = answering_at core core.receive.in_hand

abbrev pub core_answered : Core → ℕ → Option ℕ → Option OpenerBlock → Option Core
core_answered core place (Some depth) (Some block) =
    Some (core_replied depth place block (process.answer_of core.state) core)
core_answered core place _ _ = None

abbrev pub core_answering_at : List ℕ → Core → Option ℕ → Option Core
core_answering_at depths core None = None
core_answering_at depths core (Some place) =
    core_answered core place (slice_get depths place) (slice_get core.receive.openers place)

-- the core after it answered the request in hand, with openers of these depths; none where nothing is in hand, or the
-- opener isn't there
abbrev pub core_answering : List ℕ → Core → Option Core
core_answering depths core = core_answering_at depths core core.receive.in_hand
