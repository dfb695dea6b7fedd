-- The acts of a copy by which it speaks with other processes.
use Rattle.std.proofs.Common.{◌≡◌, ℕ, ℤ, List, [], ◌∷◌, Option, Some, None, slice_get, refl, ap, sym, subst, ◌∙◌}
use Rattle.std.specs.Option.{option_map}
use Rattle.std.proofs.lemmas.Option.{slice_get-map}
use Rattle.tal_tree.specs.declared.act.Act.TheVariants as act
use Rattle.tal_tree.specs.declared.site.OpenerSpec.{OpenerSpec}
use Rattle.tal_tree.specs.declared.site.Site.{Site}
use Rattle.process_semantics.specs.Process as process
use Rattle.message_wires.specs.plain_semantics.specs.declared.slot.Opener.{Opener}
use Rattle.message_wires.specs.plain_semantics.specs.Openers.{openers_of}
use Rattle.checkpoint_image.specs.declared.receive.OpenerBlock.{OpenerBlock}
use Rattle.process_control.specs.computed_changes.specs.Fitting.{depths_of}
use Rattle.file_calls.specs.sync_ids.specs.Tables.{taken_in}
use Rattle.process_control.specs.Cores.{answering_at, answering_of, core_answered, core_answering, core_answering_at}
use Rattle.process_control.specs.Copies.{CopyState, with_core}
use Rattle.process_control.specs.declared.told.Answering.{Answering}
use Rattle.kept_acts.specs.world_semantics.specs.Core.{Core, next_on}
use Rattle.kept_acts.specs.world_semantics.specs.Messages.{Replying}
use Rattle.kept_acts.specs.world_semantics.specs.Own.{Around, asked_on, request_to}
use Rattle.kept_acts.specs.world_semantics.specs.Running.{Own, own_answer, own_answer_at}
use Rattle.kept_acts.specs.world_semantics.proofs.Lists.{some-same}
use Rattle.node_copies.specs.Acting.{opener_among}
use Rattle.node_copies.specs.Seen.{openers_on}
use Rattle.node_copies.proofs.FileRows.{file-opener}

-- what is asked goes to the opener that the file is
pub asks : (site : Site) (number : ℕ) (core : Core) (file : ℕ) (words : List ℤ) (files : List (Option Opener))
    → files ≡ openers_on site number
    → asked_on site number core file words ≡ request_to (next_on core file) words (opener_among files file)
asks site number core file words files here =
    ap (request_to (next_on core file) words)
    (sym (file-opener site number file) ∙ ap (λ (all : List (Option Opener)). opener_among all file) (sym here))

-- answering, by what is answered and the core after it
abbrev pub answered : ℕ → Around → Answering → Core → Own
answered number before answering core = record {
  done = act.Step number;
  messages = Replying (record {
    process = number;
    opener = answering.opener;
    number = answering.number;
    words = answering.words;
  }) ∷ [];
  after =
      record before {
        replies = record {
          process = number;
          opener = answering.opener;
          number = answering.number;
          words = answering.words;
        } ∷ before.replies;
      };
  core = core;
}

module _ (number : ℕ) (core : Core) (before : Around) (answering : Answering) (next : Core) where
  at-opener : (place : ℕ) (opener : Option OpenerSpec) (block : Option OpenerBlock)
      → record { opener = place; number = taken_in block; words = process.answer_of core.state } ≡ answering
      → core_answered core place (option_map (λ (o : OpenerSpec). o.depth) opener) block ≡ Some next
      → own_answer_at number core before place opener block ≡ Some (answered number before answering next)
  at-opener place None block is after = absurd (cc)
  at-opener place (Some opener) None is after = absurd (cc)
  at-opener place (Some opener) (Some block) is after =
      subst (λ (a : Answering). own_answer_at number core before place (Some opener) (Some block)
      ≡ Some (answered number before a next)) is
      (ap (λ (c : Core). Some (answered number before
      (record { opener = place; number = block.taken; words = process.answer_of core.state }) c)) (some-same after))

  by-hand : (site : Site) (hand : Option ℕ) → answering_at core hand ≡ Some answering
      → core_answering_at (depths_of site number) core hand ≡ Some next
      → own_answer site number core before hand ≡ Some (answered number before answering next)
  by-hand site None is after = absurd (cc)
  by-hand site (Some place) is after =
      at-opener place (slice_get (openers_of site number) place) (slice_get core.receive.openers place) (some-same is)
      (ap (λ (d : Option ℕ). core_answered core place d (slice_get core.receive.openers place))
      (sym (slice_get-map (λ (o : OpenerSpec). o.depth) (openers_of site number) place)) ∙ after)

  pub answers : (site : Site) (depths : List ℕ) → depths ≡ depths_of site number → answering_of core ≡ Some answering
      → core_answering depths core ≡ Some next
      → own_answer site number core before core.receive.in_hand ≡ Some (answered number before answering next)
  answers site depths here is after =
      by-hand site core.receive.in_hand is (subst (λ (d : List ℕ). core_answering d core ≡ Some next) here after)

-- a core that stands where another one was
pub in-core : (control new : CopyState) (found : Option Core) → option_map (with_core control) found ≡ Some new
    → (core : Core) × ((found ≡ Some core) × (new ≡ with_core control core))
in-core control new None e = absurd (cc)
in-core control new (Some core) e = (core, (refl, sym (some-same e)))
