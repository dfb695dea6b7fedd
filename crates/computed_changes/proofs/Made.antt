-- What is computed for a message that is handed over is permitted, where the message was sent.
use Rattle.std.proofs.Common.{◌≡◌, ℕ, ◌+◌, ◌==◌, Bool, true, false, nat_lt, Option, Some, None, slice_get, refl, sym}
use Rattle.std.proofs.Common.{subst, ap, ◌∙◌}
use Rattle.std.proofs.lemmas.Bool.{eqb-true, ltb-true, ltb-false}
use Rattle.tal_tree.specs.gd_words.specs.Members.{IsAmong}
use Rattle.tal_tree.specs.gd_words.specs.declared.message.Request.{Request}
use Rattle.tal_tree.specs.gd_words.specs.declared.message.Reply.{Reply}
use Rattle.tal_tree.specs.declared.act.Act.TheVariants as act
use Rattle.tal_tree.specs.declared.site.Site.{Site}
use Rattle.tal_tree.specs.declared.site.Who.{Who}
use Rattle.tal_tree.specs.declared.site.Who.TheVariants as who
use Rattle.world_semantics.specs.process_semantics.specs.declared.point.Point.{Point}
use Rattle.world_semantics.specs.process_semantics.specs.declared.point.Point.TheVariants as point
use Rattle.world_semantics.specs.process_semantics.specs.Process as process
use Rattle.world_semantics.specs.plain_semantics.specs.Openers.{opener_of}
use Rattle.world_semantics.specs.checkpoint_image.specs.declared.message.Image.{Image}
use Rattle.world_semantics.specs.checkpoint_image.specs.declared.message.ImageMessage.{ImageMessage}
use Rattle.world_semantics.specs.checkpoint_image.specs.declared.message.TakenMessage.{TakenMessage}
use Rattle.world_semantics.specs.declared.role.Role.{Role}
use Rattle.world_semantics.specs.declared.role.Role.TheVariants.{Acting, Watching, Blank, Gone}
use Rattle.world_semantics.specs.Core.{Core, next_on, put_in, gets}
use Rattle.world_semantics.specs.declared.which.Which.{Which}
use Rattle.world_semantics.specs.World.{Pair, Terminal, World, terminal_node, copy_of, other_of, receives}
use Rattle.world_semantics.specs.Kept.{own_acts}
use Rattle.world_semantics.specs.Messages.{Message, Asking, Replying, Checkpointing, Taking, Handing}
use Rattle.world_semantics.specs.Own.{by_reply}
use Rattle.world_semantics.specs.Passes.{by_apply, by_apply_behind, by_acknowledge}
use Rattle.world_semantics.specs.Records.{records_of}
use Rattle.world_semantics.specs.Rules.{Change, by_own, by_checkpoint, by_request, by_early_request, by_print}
use Rattle.world_semantics.specs.Running.{Done, in_world}
use Rattle.world_semantics.proofs.Lists.{some-same}
use Rattle.world_semantics.proofs.Roles.{both-true}
use Rattle.world_semantics.proofs.Running.{enters-as}
use Rattle.computed_changes.specs.Fitting.{depths_of, put_where, put_fitting}
use Rattle.computed_changes.specs.Checkpoints.{is_next_for, is_of_last, applied_step_where}
use Rattle.computed_changes.specs.Handed.{handed_done, replied_done, replied_to}
use Rattle.computed_changes.specs.Replies.{awaits, awaits_at, is_to, printed_at, printed_done, printed_where}
use Rattle.computed_changes.specs.Laws.{IsSent}
use Rattle.computed_changes.proofs.Homes.{at-copy}
use Rattle.computed_changes.proofs.Lifted.{acknowledged_where, applied_made, applied_where, asked_done, checkpoint_done}
use Rattle.computed_changes.proofs.Lifted.{got_done, got_where, taken_done}
use Rattle.computed_changes.proofs.Placed.{is-to}

-- a change that is made where a message is handed over
abbrev MayHand : Site → ℕ → Message → World → Done → Type 0
MayHand site node message w done = Change site w (Handing node message) done.sendings done.world

-- Requests

asked-may : (site : Site) (request : Request) (k : Which) (pair : Pair) (w : World)
    → slice_get w.processes request.process ≡ Some pair
    → IsAmong request w.requests → (role : Role) → (copy_of k pair).role ≡ role → (done : Done)
    → asked_done request k pair w role ≡ Some done
    → MayHand site (copy_of k pair).processor (Asking request) w done
asked-may site request k pair w there sent Acting role done e =
    subst (MayHand site (copy_of k pair).processor (Asking request) w) (some-same e)
    (by_request request k pair sent there role)
asked-may site request k pair w there sent Watching role done e =
    subst (MayHand site (copy_of k pair).processor (Asking request) w) (some-same e)
    (by_early_request request k pair sent there (ap receives role))
asked-may site request k pair w there sent Blank role done e =
    subst (MayHand site (copy_of k pair).processor (Asking request) w) (some-same e)
    (by_early_request request k pair sent there (ap receives role))
asked-may site request k pair w there sent Gone role done e = absurd (cc)

-- Replies to a copy

record Awaits (site : Site) (number : ℕ) (core : Core) (reply : Reply) : Type 0 where
  pub stands : process.point core.state ≡ point.Await
  pub opens : opener_of site (who.File number (process.asked_file core.state))
      ≡ Some (record { server = reply.process; place = reply.opener })
  pub last : reply.number + 1 ≡ next_on core (process.asked_file core.state)

awaits-is : (site : Site) (number : ℕ) (core : Core) (reply : Reply) (p : Point) → process.point core.state ≡ p
    → awaits site number core reply p ≡ true
    → Awaits site number core reply
awaits-is site number core reply point.Await p e =
    let b = both-true (is_to (opener_of site (who.File number (process.asked_file core.state))) reply) _ e in
    record { stands = p; opens = is-to _ reply b.0; last = eqb-true _ _ b.1 }
awaits-is site number core reply _ p e = absurd (cc)

got-may : (site : Site) (number : ℕ) (reply : Reply) (k : Which) (pair : Pair) (w : World)
    → slice_get w.processes number ≡ Some pair
    → IsAmong reply w.replies → (role : Role) → (copy_of k pair).role ≡ role → (done : Done)
    → got_done site number reply k pair w role ≡ Some done
    → MayHand site (copy_of k pair).processor (Replying reply) w done
got-may site number reply k pair w there sent Acting role done e =
    by (awaits site number (copy_of k pair).core reply (process.point (copy_of k pair).core.state)) refl e
  where
    by : (awaited : Bool) → awaits site number (copy_of k pair).core reply (process.point (copy_of k pair).core.state)
        ≡ awaited
        → got_where number reply k pair w awaited ≡ Some done
        → MayHand site (copy_of k pair).processor (Replying reply) w done
    by true a e =
        let is = awaits-is site number (copy_of k pair).core reply _ refl a in
        subst (MayHand site (copy_of k pair).processor (Replying reply) w) (some-same e)
        (by_own number k pair there role (by_reply sent is.opens is.last refl) (gets is.stands refl)
        (enters-as number (act.Step number) w.kept (copy_of k pair)) tt)
    by false a e = absurd (cc)
got-may site number reply k pair w there sent Watching role done e = absurd (cc)
got-may site number reply k pair w there sent Blank role done e = absurd (cc)
got-may site number reply k pair w there sent Gone role done e = absurd (cc)

-- Replies to a terminal

printed-may : (site : Site) (number : ℕ) (reply : Reply) (w : World) → IsAmong reply w.replies
    → (terminal : Option Terminal)
    → slice_get w.terminals number ≡ terminal → (done : Done) → printed_done site number reply w terminal ≡ Some done
    → MayHand site terminal_node (Replying reply) w done
printed-may site number reply w sent None there done e = absurd (cc)
printed-may site number reply w sent (Some terminal) there done e = by (awaits_at site number terminal reply) refl e
  where
    by : (awaited : Bool) → awaits_at site number terminal reply ≡ awaited
        → printed_where number reply terminal w awaited ≡ Some done
        → MayHand site terminal_node (Replying reply) w done
    by true a e =
        let b = both-true (is_to (opener_of site (who.Terminal number)) reply) _ a in
        let c = both-true (terminal.entered == terminal.printed + 1) _ b.1 in
        subst (MayHand site terminal_node (Replying reply) w) (some-same e)
        (by_print number terminal reply there (eqb-true _ _ c.0) sent (is-to _ reply b.0) (eqb-true _ _ c.1))
    by false a e = absurd (cc)

printed-here : (site : Site) (node number : ℕ) (reply : Reply) (w : World) → IsAmong reply w.replies → (here : Bool)
    → (node == terminal_node) ≡ here
    → (done : Done) → printed_at site number reply w here ≡ Some done → MayHand site node (Replying reply) w done
printed-here site node number reply w sent true here done e =
    subst (λ n. MayHand site n (Replying reply) w done) (sym (eqb-true node terminal_node here))
    (printed-may site number reply w sent (slice_get w.terminals number) refl done e)
printed-here site node number reply w sent false here done e = absurd (cc)

replied-to : (site : Site) (node : ℕ) (reply : Reply) (w : World) → IsAmong reply w.replies → (one : Who) (done : Done)
    → replied_to site node reply w one ≡ Some done → MayHand site node (Replying reply) w done
replied-to site node reply w sent (who.File number file) done e =
    let at = at-copy site number node (Replying reply) w (slice_get w.processes number) done e in
    subst (λ n. MayHand site n (Replying reply) w done) at.here
    (got-may site number reply at.k at.pair w at.there sent _ refl done at.made)
replied-to site node reply w sent (who.Terminal number) done e =
    printed-here site node number reply w sent _ refl done e

replied-may : (site : Site) (node : ℕ) (reply : Reply) (w : World) → IsAmong reply w.replies
    → (one : Option Who) (done : Done)
    → replied_done site node reply w one ≡ Some done → MayHand site node (Replying reply) w done
replied-may site node reply w sent None done e = absurd (cc)
replied-may site node reply w sent (Some one) done e = replied-to site node reply w sent one done e

-- Checkpoints

put-in : (core : Core) (image : Image) (fitting : Bool) (applied : Core) → put_where core image fitting ≡ Some applied
    → put_in core image ≡ Some applied
put-in core image true applied e = e
put-in core image false applied e = absurd (cc)

-- a copy applies a checkpoint of one that is behind the kept acts or not
step-may : (site : Site) (message : ImageMessage) (k : Which) (pair : Pair) (w : World) (applied : Core)
    → slice_get w.processes message.process ≡ Some pair → receives (copy_of k pair).role ≡ true
    → IsAmong message pair.checkpoints → message.era ≡ (copy_of k pair).era
    → message.number ≡ (copy_of k pair).number + 1
    → put_in (copy_of k pair).core message.image ≡ Some applied → (behind : Bool)
    → nat_lt (copy_of (other_of k) pair).position (own_acts message.process w.kept) ≡ behind
    → MayHand site (copy_of k pair).processor (Checkpointing message) w
    (in_world message.process w (applied_step_where message.process k pair (records_of w) message applied behind))
step-may site message k pair w applied there role sent era number is true l =
    by_checkpoint message.process pair there
    (by_apply_behind k message applied role sent era number is (ltb-true _ _ l))
step-may site message k pair w applied there role sent era number is false l =
    by_checkpoint message.process pair there (by_apply k message applied role sent era number is (ltb-false _ _ l))

applied-may : (site : Site) (message : ImageMessage) (k : Which) (pair : Pair) (w : World)
    → slice_get w.processes message.process ≡ Some pair
    → IsAmong message pair.checkpoints → receives (copy_of k pair).role ≡ true → (next : Bool)
    → is_next_for (copy_of k pair).era (copy_of k pair).number message ≡ next
    → (done : Done)
    → applied_where site message k pair w next ≡ Some done
    → MayHand site (copy_of k pair).processor (Checkpointing message) w done
applied-may site message k pair w there sent role true n done e =
    by (put_fitting (depths_of site message.process) (copy_of k pair).core message.image) refl e
  where
    by : (applied : Option Core) → put_fitting (depths_of site message.process) (copy_of k pair).core message.image
        ≡ applied
        → applied_made message k pair w applied ≡ Some done
        → MayHand site (copy_of k pair).processor (Checkpointing message) w done
    by None p e = absurd (cc)
    by (Some applied) p e =
        let b = both-true (message.era == (copy_of k pair).era) _ n in
        subst (MayHand site (copy_of k pair).processor (Checkpointing message) w) (some-same e)
        (step-may site message k pair w applied there role sent (eqb-true _ _ b.0) (eqb-true _ _ b.1)
        (put-in (copy_of k pair).core message.image _ applied p) _ refl)
applied-may site message k pair w there sent role false n done e = absurd (cc)

checkpoint-may : (site : Site) (message : ImageMessage) (k : Which) (pair : Pair) (w : World)
    → slice_get w.processes message.process ≡ Some pair
    → IsAmong message pair.checkpoints → (role : Role) → (copy_of k pair).role ≡ role → (done : Done)
    → checkpoint_done site message k pair w role ≡ Some done
    → MayHand site (copy_of k pair).processor (Checkpointing message) w done
checkpoint-may site message k pair w there sent Acting role done e = absurd (cc)
checkpoint-may site message k pair w there sent Watching role done e =
    applied-may site message k pair w there sent (ap receives role) _ refl done e
checkpoint-may site message k pair w there sent Blank role done e =
    applied-may site message k pair w there sent (ap receives role) _ refl done e
checkpoint-may site message k pair w there sent Gone role done e = absurd (cc)

-- That a checkpoint was taken

acknowledged-may : (site : Site) (taken : TakenMessage) (k : Which) (pair : Pair) (w : World)
    → slice_get w.processes taken.process ≡ Some pair
    → IsAmong taken pair.takens → (copy_of k pair).role ≡ Acting → (last : Bool)
    → is_of_last (copy_of k pair).sent (copy_of k pair).era (copy_of k pair).number taken ≡ last
    → (done : Done)
    → acknowledged_where taken k pair w last ≡ Some done → MayHand site (copy_of k pair).processor (Taking taken) w done
acknowledged-may site taken k pair w there sent role true l done e =
    let b = both-true (copy_of k pair).sent _ l in
    let c = both-true (taken.era == (copy_of k pair).era) _ b.1 in
    subst (MayHand site (copy_of k pair).processor (Taking taken) w) (some-same e)
    (by_checkpoint taken.process pair there
    (by_acknowledge k taken role b.0 sent (eqb-true _ _ c.0) (eqb-true _ _ c.1)))
acknowledged-may site taken k pair w there sent role false l done e = absurd (cc)

taken-may : (site : Site) (taken : TakenMessage) (k : Which) (pair : Pair) (w : World)
    → slice_get w.processes taken.process ≡ Some pair
    → IsAmong taken pair.takens → (role : Role) → (copy_of k pair).role ≡ role → (done : Done)
    → taken_done taken k pair w role ≡ Some done
    → MayHand site (copy_of k pair).processor (Taking taken) w done
taken-may site taken k pair w there sent Acting role done e =
    acknowledged-may site taken k pair w there sent role _ refl done e
taken-may site taken k pair w there sent Watching role done e = absurd (cc)
taken-may site taken k pair w there sent Blank role done e = absurd (cc)
taken-may site taken k pair w there sent Gone role done e = absurd (cc)

-- Messages

pub handed-may : (site : Site) (node : ℕ) (message : Message) (w : World) (done : Done) → IsSent w message
    → handed_done site node message w ≡ Some done
    → Change site w (Handing node message) done.sendings done.world
handed-may site node (Asking request) w done sent e =
    let at = at-copy site request.process node (Asking request) w (slice_get w.processes request.process) done e in
    subst (λ n. MayHand site n (Asking request) w done) at.here
    (asked-may site request at.k at.pair w at.there sent _ refl done at.made)
handed-may site node (Replying reply) w done sent e = replied-may site node reply w sent _ done e
handed-may site node (Checkpointing message) w done (pair, there, sent) e =
    let at = at-copy site message.process node (Checkpointing message) w (slice_get w.processes message.process) done
    e in
    let among = subst (λ (p : Pair). IsAmong message p.checkpoints) (some-same (sym there ∙ at.there)) sent in
    subst (λ n. MayHand site n (Checkpointing message) w done) at.here
    (checkpoint-may site message at.k at.pair w at.there among _ refl done at.made)
handed-may site node (Taking taken) w done (pair, there, sent) e =
    let at = at-copy site taken.process node (Taking taken) w (slice_get w.processes taken.process) done e in
    let among = subst (λ (p : Pair). IsAmong taken p.takens) (some-same (sym there ∙ at.there)) sent in
    subst (λ n. MayHand site n (Taking taken) w done) at.here
    (taken-may site taken at.k at.pair w at.there among _ refl done at.made)
