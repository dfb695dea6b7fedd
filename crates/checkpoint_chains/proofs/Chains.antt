-- Every change keeps checkpoints a chain, to which copies stand.
use Rattle.std.proofs.Common.{◌≡◌, ◌≤◌, ◌<◌, inl, inr, ℕ, ◌+◌, ◌==◌, ◌&&◌, ◌||◌, Bool, true, false, if◌then◌else◌, List}
use Rattle.std.proofs.Common.{[]}
use Rattle.std.proofs.Common.{◌∷◌, is_some, Option, Some, None, slice_get, refl, sym, subst, ◌∙◌, arith, eq-eqb}
use Rattle.gd_words.specs.Members.{IsAmong}
use Rattle.gd_words.specs.declared.message.Request.{Request}
use Rattle.tal_tree.specs.declared.act.Act.{Act}
use Rattle.tal_tree.specs.declared.site.ProcessSpec.{ProcessSpec}
use Rattle.tal_tree.specs.declared.site.Site.{Site}
use Rattle.schedule.specs.declared.event.Event.{Event}
use Rattle.disc_device.specs.Sectors.{Stored}
use Rattle.world_semantics.specs.plain_semantics.specs.Openers.{openers_of}
use Rattle.process_semantics.specs.Image.{state_from_words}
use Rattle.process_semantics.specs.Process.{ProcessState}
use Rattle.checkpoint_image.specs.declared.message.Image.{Image}
use Rattle.checkpoint_image.specs.declared.message.ImageMessage.{ImageMessage}
use Rattle.checkpoint_image.specs.declared.receive.ReceiveBlock.{ReceiveBlock}
use Rattle.receive_changes.specs.Later.{ComesTo, Same}
use Rattle.world_semantics.specs.declared.role.Role.{Role}
use Rattle.world_semantics.specs.declared.role.Role.TheVariants.{Acting, Watching, Blank, Gone}
use Rattle.world_semantics.specs.declared.which.Which.{Which}
use Rattle.world_semantics.specs.declared.which.Which.TheVariants.{First, Second}
use Rattle.world_semantics.specs.Core.{Advances, Core, Deed, put_in, with_files}
use Rattle.world_semantics.specs.Follows.{IsRun, stays}
use Rattle.world_semantics.specs.Kept.{Enters, begins, holds_on, keeps, repeats}
use Rattle.world_semantics.specs.Messages.{Cause, Sending}
use Rattle.world_semantics.specs.Passes.{Passes, by_acknowledge, by_apply, by_apply_behind, by_end, by_pass}
use Rattle.world_semantics.specs.Passes.{by_pass_again, by_send}
use Rattle.world_semantics.specs.Passes.{checkpoint_of}
use Rattle.world_semantics.specs.Rules.{Change, by_checkpoint, by_early_request, by_enter, by_mark, by_own, by_print}
use Rattle.world_semantics.specs.Rules.{by_reload, by_request, by_stop, pair_after_down, pair_at_down, stopped_pair}
use Rattle.world_semantics.specs.Rules.{taker}
use Rattle.world_semantics.specs.Rules.{new_core, reloaded_by, renewals_ended, without_downs}
use Rattle.world_semantics.specs.Laws.{IsPlaced}
use Rattle.world_semantics.specs.World.{Copy, Down, Pair, World, boot, copy_of, has_marked, pair_at_boot}
use Rattle.world_semantics.specs.World.{other_of, with_copy}
use Rattle.world_semantics.proofs.Becoming.{acting-gets-none}
use Rattle.world_semantics.proofs.Beginning.{all-begin}
use Rattle.world_semantics.proofs.Fair.{fair-of, run-fair}
use Rattle.world_semantics.proofs.Hands.{Stands, map-some}
use Rattle.world_semantics.proofs.Lists.{map-all, set-all}
use Rattle.world_semantics.proofs.Reached.{one-acts, run-kept, run-roles, survives}
use Rattle.world_semantics.proofs.Roles.{reload-all, taker-is}
use Rattle.world_semantics.proofs.Runs.{holds-on}
use Rattle.world_semantics.proofs.Steady.{marked-down}
use Rattle.letter_laws.specs.computed_changes.specs.Fitting.{depths_of}
use Rattle.letter_laws.proofs.Reached.{IsReached, change-reached}
use Rattle.checkpoint_chains.specs.Chains.{AllChained, GoesOnFrom, IsChained, StandsTo}
use Rattle.checkpoint_chains.proofs.Following.{deed-comes, goes-on}
use Rattle.checkpoint_chains.proofs.Numbered.{link-more}

-- One copy

module _ (depths : List ℕ) (sent : List ImageMessage) where
  -- no processor is forgotten that was marked
  marked-less : (before after : Bool) (role : Role) (era number : ℕ) (table : ReceiveBlock)
      → (role ≡ Acting → after ≡ false → before ≡ false) → StandsTo depths sent before role era number table
      → StandsTo depths sent after role era number table
  marked-less before after role era number table less st =
      record { acts = λ acting unmarked. st.acts acting (less acting unmarked); watches = st.watches }

  -- its processor may stop
  stop-stands : (is_marked here : Bool) (role : Role) (era number : ℕ) (table : ReceiveBlock)
      → StandsTo depths sent is_marked role era number table
      → StandsTo depths sent is_marked (if here then Gone else role) era number table
  stop-stands is_marked true role era number table st = record { acts = λ e. absurd cc; watches = λ e. absurd cc }
  stop-stands is_marked false role era number table st = st

  -- it takes over where its node marks the other's processor
  taken-stands : (is_marked : Bool) (era : ℕ) (table : ReceiveBlock) → is_marked ≡ true
      → StandsTo depths sent is_marked Acting era 0 table
  taken-stands is_marked era table is =
      record { acts = λ acting unmarked. absurd (let bad = sym is ∙ unmarked in cc); watches = λ e. absurd cc }

  -- it is blank
  blank-stands : (is_marked : Bool) (era : ℕ) (table : ReceiveBlock) → StandsTo depths sent is_marked Blank era 0 table
  blank-stands is_marked era table = record { acts = λ e. absurd cc; watches = λ e. inl refl }

  -- it goes on acting
  acts-stand : (is_marked : Bool) (role : Role) (era number : ℕ) (table next : ReceiveBlock) → role ≡ Acting
      → ((base : ReceiveBlock) → ComesTo depths base table → ComesTo depths base next)
      → StandsTo depths sent is_marked role era number table → StandsTo depths sent is_marked role era number next
  acts-stand is_marked role era number table next acting more st = record {
    acts = λ e unmarked. goes-on depths sent era number table next more (st.acts e unmarked);
    watches = λ e. absurd (acting-gets-none role acting e);
  }

  -- it applied one of the checkpoints
  applied-stands : (is_marked : Bool) (era : ℕ) (message : ImageMessage) (table : ReceiveBlock)
      → IsAmong message sent → message.era ≡ era → message.image.receive ≡ table
      → StandsTo depths sent is_marked Watching era message.number table
  applied-stands is_marked era message table among of same = record {
    acts = λ e. absurd cc;
    watches = λ e. inr (message, among, of, refl, same);
  }

  -- the other one sent one more
  more-stands : (is_marked : Bool) (role : Role) (era number : ℕ) (table : ReceiveBlock) (message : ImageMessage)
      → (role ≡ Acting → ⊥)
      → StandsTo depths sent is_marked role era number table
      → StandsTo depths (message ∷ sent) is_marked role era number table
  more-stands is_marked role era number table message other st = record {
    acts = λ acting unmarked. absurd (other acting);
    watches = λ watching. elim (st.watches watching) [
      | inl none ↦ inl none
      | inr one ↦ inr (one.0, inr one.1, one.2, one.3, one.4)
    ];
  }

  -- it sent one more itself
  sent-stands : (is_marked : Bool) (role : Role) (era number : ℕ) (table : ReceiveBlock) (message : ImageMessage)
      → role ≡ Acting → era ≡ message.era → number ≡ message.number → message.image.receive ≡ table
      → StandsTo depths (message ∷ sent) is_marked role era number table
  sent-stands is_marked role era number table message acting of count same = record {
    acts = λ e unmarked.
        inl (of, count, subst (λ (t : ReceiveBlock). ComesTo depths message.image.receive t) same Same);
    watches = λ e. absurd (acting-gets-none role acting e);
  }

-- an era after all that was sent goes on from the newest one
later-goes-on : (depths : List ℕ) (sent : List ImageMessage) (era : ℕ) (table : ReceiveBlock)
    → ((message : ImageMessage) → IsAmong message sent → message.era < era)
    → GoesOnFrom depths sent era 0 table
later-goes-on depths [] era table less = refl
later-goes-on depths (message ∷ older) era table less = inr (less message (inl refl), refl)

-- the table of what a checkpoint was put into is that of the checkpoint
applied-table : (core applied : Core) (image : Image) → put_in core image ≡ Some applied
    → image.receive ≡ applied.receive
applied-table core applied image is =
    map-some (λ (state : ProcessState). record {
      state = state;
      next = with_files image.files core.next;
      receive = image.receive;
    }) (λ (one : Core). image.receive ≡ one.receive)
    (state_from_words core.state (is_some image.receive.in_hand) image.body) applied (λ state there. refl) is

-- One process

module _ (site : Site) (number : ℕ) (downs : List Down) (pair : Pair)
    (ok : IsChained (depths_of site number) downs pair)
    (one : pair.first.role ≡ Acting → pair.second.role ≡ Acting → ⊥)
    (stands : (k : Which) → Stands (copy_of k pair).core.state (is_some (copy_of k pair).core.receive.in_hand)) where
  abbrev depths : List ℕ
  depths = depths_of site number

  more-of : (k : Which) (core : Core) (deed : Deed) → Advances (openers_of site number) (copy_of k pair).core deed core
      → (base : ReceiveBlock) → ComesTo depths base (copy_of k pair).core.receive → ComesTo depths base core.receive
  more-of k core deed advances base came =
      deed-comes (openers_of site number) (copy_of k pair).core core deed advances (stands k) base came

  own-first : (entered : Copy) (core : Core) (waiting : List Request) (sectors : List Stored) (deed : Deed) {act : Act}
      {kept after : List Act} → pair.first.role ≡ Acting
      → Advances (openers_of site number) pair.first.core deed core → Enters number act kept pair.first entered after
      → IsChained depths downs (with_copy First (record entered { core = core; waiting = waiting })
      (record pair { sectors = sectors }))
  own-first entered core waiting sectors deed acting advances (holds_on e) = (
    ok.0,
    (
      acts-stand depths pair.checkpoints _ _ _ _ _ core.receive acting (more-of First core deed advances) ok.1.0,
      ok.1.1,
    ),
  )
  own-first entered core waiting sectors deed acting advances (repeats e l) = (
    ok.0,
    (
      acts-stand depths pair.checkpoints _ _ _ _ _ core.receive acting (more-of First core deed advances) ok.1.0,
      ok.1.1,
    ),
  )
  own-first entered core waiting sectors deed acting advances (begins e l t) = (
    ok.0,
    (
      acts-stand depths pair.checkpoints _ _ _ _ _ core.receive acting (more-of First core deed advances) ok.1.0,
      ok.1.1,
    ),
  )
  own-first entered core waiting sectors deed acting advances (keeps e l t) = (
    ok.0,
    (
      acts-stand depths pair.checkpoints _ _ _ _ _ core.receive acting (more-of First core deed advances) ok.1.0,
      ok.1.1,
    ),
  )

  own-second : (entered : Copy) (core : Core) (waiting : List Request) (sectors : List Stored) (deed : Deed) {act : Act}
      {kept after : List Act} → pair.second.role ≡ Acting
      → Advances (openers_of site number) pair.second.core deed core → Enters number act kept pair.second entered after
      → IsChained depths downs (with_copy Second (record entered { core = core; waiting = waiting })
      (record pair { sectors = sectors }))
  own-second entered core waiting sectors deed acting advances (holds_on e) = (
    ok.0,
    (
      ok.1.0,
      acts-stand depths pair.checkpoints _ _ _ _ _ core.receive acting
          (more-of Second core deed advances) ok.1.1,
    ),
  )
  own-second entered core waiting sectors deed acting advances (repeats e l) = (
    ok.0,
    (
      ok.1.0,
      acts-stand depths pair.checkpoints _ _ _ _ _ core.receive acting
          (more-of Second core deed advances) ok.1.1,
    ),
  )
  own-second entered core waiting sectors deed acting advances (begins e l t) = (
    ok.0,
    (
      ok.1.0,
      acts-stand depths pair.checkpoints _ _ _ _ _ core.receive acting
          (more-of Second core deed advances) ok.1.1,
    ),
  )
  own-second entered core waiting sectors deed acting advances (keeps e l t) = (
    ok.0,
    (
      ok.1.0,
      acts-stand depths pair.checkpoints _ _ _ _ _ core.receive acting
          (more-of Second core deed advances) ok.1.1,
    ),
  )

  own-chained : (k : Which) (entered : Copy) (core : Core) (waiting : List Request) (sectors : List Stored)
      (deed : Deed) {act : Act} {kept after : List Act} → (copy_of k pair).role ≡ Acting
      → Advances (openers_of site number) (copy_of k pair).core deed core
      → Enters number act kept (copy_of k pair) entered after
      → IsChained depths downs (with_copy k (record entered { core = core; waiting = waiting })
      (record pair { sectors = sectors }))
  own-chained First entered core waiting sectors deed acting advances enters =
      own-first entered core waiting sectors deed acting advances enters
  own-chained Second entered core waiting sectors deed acting advances enters =
      own-second entered core waiting sectors deed acting advances enters

  passes-chained : {kept after : List Act} {next : Pair} {cause : Cause} {sendings : List Sending}
      → Passes number downs kept pair cause sendings next after → IsChained depths downs next
  passes-chained (by_send First acting at unsent unmarked) =
      let message : ImageMessage = checkpoint_of number pair.first in (
        link-more depths pair.checkpoints pair.first.era pair.first.number pair.first.core.receive message ok.0
            (ok.1.0.acts acting unmarked) refl refl refl,
        (
          sent-stands depths pair.checkpoints _ pair.first.role pair.first.era message.number pair.first.core.receive
              message acting refl refl refl,
          more-stands depths pair.checkpoints _ pair.second.role pair.second.era pair.second.number
              pair.second.core.receive message (one acting) ok.1.1,
        ),
      )
  passes-chained (by_send Second acting at unsent unmarked) =
      let message : ImageMessage = checkpoint_of number pair.second in (
        link-more depths pair.checkpoints pair.second.era pair.second.number pair.second.core.receive message ok.0
            (ok.1.1.acts acting unmarked) refl refl refl,
        (
          more-stands depths pair.checkpoints _ pair.first.role pair.first.era pair.first.number pair.first.core.receive
              message (λ first. one first acting) ok.1.0,
          sent-stands depths pair.checkpoints _ pair.second.role pair.second.era message.number
              pair.second.core.receive message acting refl refl refl,
        ),
      )
  passes-chained (by_pass_again First acting at may less) = ok
  passes-chained (by_pass_again Second acting at may less) = ok
  passes-chained (by_pass First acting at may most) = ok
  passes-chained (by_pass Second acting at may most) = ok
  passes-chained (by_end First acting sent at may) = ok
  passes-chained (by_end Second acting sent at may) = ok
  passes-chained (by_apply_behind First message applied watching among era next put less) = (
    ok.0,
    (
      applied-stands depths pair.checkpoints _ pair.first.era message applied.receive among era
          (applied-table pair.first.core applied message.image put),
      ok.1.1,
    ),
  )
  passes-chained (by_apply_behind Second message applied watching among era next put less) = (
    ok.0,
    (
      ok.1.0,
      applied-stands depths pair.checkpoints _ pair.second.era message applied.receive among era
          (applied-table pair.second.core applied message.image put),
    ),
  )
  passes-chained (by_apply First message applied watching among era next put most) = (
    ok.0,
    (
      applied-stands depths pair.checkpoints _ pair.first.era message applied.receive among era
          (applied-table pair.first.core applied message.image put),
      ok.1.1,
    ),
  )
  passes-chained (by_apply Second message applied watching among era next put most) = (
    ok.0,
    (
      ok.1.0,
      applied-stands depths pair.checkpoints _ pair.second.era message applied.receive among era
          (applied-table pair.second.core applied message.image put),
    ),
  )
  passes-chained (by_acknowledge First taken acting sent among era same) = ok
  passes-chained (by_acknowledge Second taken acting sent among era same) = ok

  waiting-chained : (k : Which) (waiting : List Request)
      → IsChained depths downs (with_copy k (record (copy_of k pair) { waiting = waiting }) pair)
  waiting-chained First waiting = ok
  waiting-chained Second waiting = ok

  stop-chained : (processor : ℕ) → IsChained depths downs (stopped_pair processor pair)
  stop-chained processor = (
    ok.0,
    (
      stop-stands depths pair.checkpoints _ (pair.first.processor == processor) pair.first.role _ _ _ ok.1.0,
      stop-stands depths pair.checkpoints _ (pair.second.processor == processor) pair.second.role _ _ _ ok.1.1,
    ),
  )

  right-none : (a b : Bool) → (a || b) ≡ false → b ≡ false
  right-none true b is = absurd cc
  right-none false b is = is

  abbrev marked : ℕ → ℕ → List Down
  marked node processor = record { node = node; down = processor } ∷ downs

  less : (node processor a b : ℕ) → has_marked (marked node processor) a b ≡ false → has_marked downs a b ≡ false
  less node processor a b = right-none (node == a && processor == b) (has_marked downs a b)

  -- after the mark all stand as before
  marked-first : (node processor : ℕ) → StandsTo depths pair.checkpoints
      (has_marked (marked node processor) pair.first.processor pair.second.processor) pair.first.role pair.first.era
      pair.first.number pair.first.core.receive
  marked-first node processor =
      marked-less depths pair.checkpoints _ _ _ _ _ _
      (λ acting. less node processor pair.first.processor pair.second.processor) ok.1.0

  marked-second : (node processor : ℕ) → StandsTo depths pair.checkpoints
      (has_marked (marked node processor) pair.second.processor pair.first.processor) pair.second.role pair.second.era
      pair.second.number pair.second.core.receive
  marked-second node processor =
      marked-less depths pair.checkpoints _ _ _ _ _ _
      (λ acting. less node processor pair.second.processor pair.first.processor) ok.1.1

  now-marked : (node processor a b : ℕ) → a ≡ node → b ≡ processor → has_marked (marked node processor) a b ≡ true
  now-marked node processor a b here lost = rw (eq-eqb node a (sym here), eq-eqb processor b (sym lost)) refl

  mark-chained : (node processor : ℕ) (k : Option Which) → taker node processor pair ≡ k
      → IsChained depths (marked node processor) (renewals_ended node processor (pair_after_down k pair))
  mark-chained node processor None is = (ok.0, (marked-first node processor, marked-second node processor))
  mark-chained node processor (Some First) is =
      let takes = taker-is node processor pair First is in (
        ok.0,
        (
          taken-stands depths pair.checkpoints _ _ pair.first.core.receive
              (now-marked node processor pair.first.processor pair.second.processor takes.there takes.lost),
          marked-second node processor,
        ),
      )
  mark-chained node processor (Some Second) is =
      let takes = taker-is node processor pair Second is in (
        ok.0,
        (
          marked-first node processor,
          taken-stands depths pair.checkpoints _ _ pair.second.core.receive
              (now-marked node processor pair.second.processor pair.first.processor takes.there takes.lost),
        ),
      )

  -- Reloads

  -- where a processor x is loaded again: at most one has stopped, so only x was marked; and each message is of no later
  -- era than a copy that acts
  module _ (x : ℕ) (core : Core) (after : List Down)
      (only : (node down : ℕ) → has_marked downs node down ≡ true → down ≡ x)
      (dated : (k : Which) → (copy_of k pair).role ≡ Acting → (message : ImageMessage)
      → IsAmong message pair.checkpoints → message.era ≤ (copy_of k pair).era) where
    elsewhere : (node down : ℕ) → (down == x) ≡ false → has_marked downs node down ≡ false
    elsewhere node down other = by (has_marked downs node down) refl
      where
        by : (b : Bool) → has_marked downs node down ≡ b → b ≡ false
        by true is = absurd (let same = eq-eqb down x (only node down is) in cc)
        by false is = refl

    -- a copy whose other one isn't in x stands as before
    still-stands : (k : Which) → ((copy_of (other_of k) pair).processor == x) ≡ false
        → StandsTo depths pair.checkpoints
        (has_marked downs (copy_of k pair).processor (copy_of (other_of k) pair).processor)
        (copy_of k pair).role (copy_of k pair).era (copy_of k pair).number (copy_of k pair).core.receive
        → StandsTo depths pair.checkpoints
        (has_marked after (copy_of k pair).processor (copy_of (other_of k) pair).processor)
        (copy_of k pair).role (copy_of k pair).era (copy_of k pair).number (copy_of k pair).core.receive
    still-stands k other st =
        marked-less depths pair.checkpoints _ _ _ _ _ _
        (λ acting unmarked. elsewhere (copy_of k pair).processor (copy_of (other_of k) pair).processor other) st

    -- one that has to send everything begins an era
    renewed-stands : (k : Which) (is_marked : Bool) → (copy_of k pair).role ≡ Acting
        → StandsTo depths pair.checkpoints is_marked (copy_of k pair).role ((copy_of k pair).era + 1) 0
        (copy_of k pair).core.receive
    renewed-stands k is_marked acting = record {
      acts = λ e unmarked. later-goes-on depths pair.checkpoints ((copy_of k pair).era + 1)
          (copy_of k pair).core.receive
          (λ message among. (let most = dated k acting message among in omega (arith, most)));
      watches = λ e. absurd (acting-gets-none (copy_of k pair).role acting e);
    }

    reload-chained : (one two : Bool) → (pair.first.processor == x) ≡ one → (pair.second.processor == x) ≡ two
        → (one ≡ true → (pair.second.role ≡ Acting) × (two ≡ false))
        → (two ≡ true → (pair.first.role ≡ Acting) × (one ≡ false))
        → IsChained depths after (reloaded_by core pair one two)
    reload-chained false false a b first second =
        (ok.0, (still-stands First b ok.1.0, still-stands Second a ok.1.1))
    reload-chained true false a b first second =
        (ok.0, (blank-stands depths pair.checkpoints _ _ core.receive, renewed-stands Second _ (first refl).0))
    reload-chained false true a b first second =
        (ok.0, (renewed-stands First _ (second refl).0, blank-stands depths pair.checkpoints _ _ core.receive))
    reload-chained true true a b first second = absurd (let never = (first refl).1 in cc)

-- All processes

module _ (site : Site) (placed : IsPlaced site) (w : World) (reached : IsReached site w) (all : AllChained site w) where
  abbrev Of : List Down → ℕ → Pair → Type 0
  Of downs number pair = IsChained (depths_of site number) downs pair

  one-of : (number : ℕ) (pair : Pair) → slice_get w.processes number ≡ Some pair
      → pair.first.role ≡ Acting → pair.second.role ≡ Acting → ⊥
  one-of number pair there = one-acts w.stopped pair (run-roles reached.1 number pair there)

  stands-of : (number : ℕ) (pair : Pair) → slice_get w.processes number ≡ Some pair → (k : Which)
      → Stands (copy_of k pair).core.state (is_some (copy_of k pair).core.receive.in_hand)
  stands-of number pair there k = (fair-of number w.replies k pair (run-fair reached.1 number pair there)).core.stands

  -- no checkpoint is of a later era than a copy that acts
  dated-of : (number : ℕ) (pair : Pair) → slice_get w.processes number ≡ Some pair → (k : Which)
      → (copy_of k pair).role ≡ Acting → (message : ImageMessage) → IsAmong message pair.checkpoints
      → message.era ≤ (copy_of k pair).era
  dated-of number pair there First acting message among =
      (((run-kept placed reached.1).seen number pair there).0.acting acting).checkpoint message among
  dated-of number pair there Second acting message among =
      (((run-kept placed reached.1).seen number pair there).1.acting acting).checkpoint message among

  chained-after : (next : World) (cause : Cause) (sendings : List Sending) → Change site w cause sendings next
      → AllChained site next
  chained-after next cause sendings (by_own {deed = deed} {core = core} {entered = entered} number k pair there acting
      causes advances enters fr) =
      set-all (Of w.downs) w.processes number _ all
      (own-chained site number w.downs pair (all number pair there) (one-of number pair there)
      (stands-of number pair there) k entered core _ _ deed acting advances enters)
  chained-after next cause sendings (by_checkpoint number pair there passes) =
      set-all (Of w.downs) w.processes number _ all
      (passes-chained site number w.downs pair (all number pair there) (one-of number pair there)
      (stands-of number pair there) passes)
  chained-after next cause sendings (by_request request k pair sent there acting) =
      set-all (Of w.downs) w.processes request.process _ all
      (waiting-chained site request.process w.downs pair (all request.process pair there)
      (one-of request.process pair there) (stands-of request.process pair there) k _)
  chained-after next cause sendings (by_early_request request k pair sent there watching) =
      set-all (Of w.downs) w.processes request.process _ all
      (waiting-chained site request.process w.downs pair (all request.process pair there)
      (one-of request.process pair there) (stands-of request.process pair there) k _)
  chained-after next cause sendings (by_enter number terminal opener there even is opens) = all
  chained-after next cause sendings (by_print number terminal reply there odd sent opens is) = all
  chained-after next cause sendings (by_stop processor alive whole) =
      map-all (Of w.downs) (stopped_pair processor) w.processes
      (λ number pair there. stop-chained site number w.downs pair (all number pair there) (one-of number pair there)
      (stands-of number pair there) processor)
  chained-after next cause sendings (by_mark node processor down alive unmarked) =
      map-all (Of (record { node = node; down = processor } ∷ w.downs)) (pair_at_down node processor) w.processes
      (λ number pair there. mark-chained site number w.downs pair (all number pair there) (one-of number pair there)
      (stands-of number pair there) node processor (taker node processor pair) refl)
  chained-after next cause sendings (by_reload {times = times} x down is_marked times_is few) =
      let kept = run-kept placed reached.1 in
      reload-all (λ number pair. IsChained (depths_of site number) (without_downs x w.downs) pair) site x w.processes
      (λ number pair there.
      (let both = survives site placed w kept x (record { down = down; all = is_marked }) number pair there in
      reload-chained site number w.downs pair (all number pair there) (one-of number pair there)
      (stands-of number pair there) x (new_core site number (slice_get site.processes number) pair.first.core)
      (without_downs x w.downs)
      (λ node other is. kept.steady.one other x (marked-down w.stopped w.downs node other kept.downs is) down)
      (dated-of number pair there) (pair.first.processor == x) (pair.second.processor == x) refl refl both.0 both.1))

-- Runs

chained-begin : (site : Site) → AllChained site (boot site)
chained-begin site =
    all-begin (λ number pair. IsChained (depths_of site number) [] pair) site begins
  where
    begins : (number from : ℕ) (spec : ProcessSpec)
        → IsChained (depths_of site number) [] (pair_at_boot site from spec)
    begins number from spec = (
      tt,
      (
        record { acts = λ acting unmarked. refl; watches = λ e. absurd cc },
        record { acts = λ e. absurd cc; watches = λ watching. inl refl },
      ),
    )

pub run-chained : (site : Site) → IsPlaced site → (events : List Event) (w : World) → IsRun site events w
    → AllChained site w
run-chained site placed events w run =
    (holds-on (λ (one : World). IsReached site one × AllChained site one)
    (λ one next cause sendings change known. (
      change-reached one next cause sendings change known.0,
      chained-after site placed one known.0 known.1 next cause sendings change,
    )) run (([], stays), chained-begin site)).1
