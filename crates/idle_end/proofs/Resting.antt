-- How the copies that act stand to the deeds of their processes at an idle end: none of them is behind.
use Rattle.std.proofs.Common.{◌≡◌, ◌⊎◌, inl, inr, ℕ, ◌<◌, List, [], ◌∷◌, ◌++◌, length, Some, slice_get, refl, ap, sym}
use Rattle.std.proofs.Common.{◌∙◌, subst, arith, append_assoc}
use Rattle.tal_tree.specs.declared.site.Site.{Site}
use Rattle.tal_tree.specs.declared.site.ProcessSpec.{ProcessSpec}
use Rattle.tal_tree.specs.declared.site.Who.TheVariants as who
use Rattle.process_semantics.specs.declared.point.Point.TheVariants as point
use Rattle.process_semantics.specs.Process as process
use Rattle.plain_semantics.specs.declared.slot.Opener.{Opener}
use Rattle.plain_semantics.specs.Openers.{openers_of, opener_of}
use Rattle.world_semantics.specs.declared.role.Role.TheVariants.{Acting}
use Rattle.world_semantics.specs.declared.which.Which.{Which}
use Rattle.world_semantics.specs.Core.{Core, Deed, Went, Checkpointed, Took, Asked, Got, Answered, Acted, Advances}
use Rattle.world_semantics.specs.Laws.{HasGrown}
use Rattle.world_semantics.specs.World.{Copy, Pair, World, copy_of}
use Rattle.world_semantics.proofs.Lists.{some-same, grown-none}
use Rattle.process_histories.specs.Histories.{HasDone}
use Rattle.process_histories.specs.Words.{answer_to, requests_on, answered_to}
use Rattle.process_histories.proofs.Deeds.{point_of, stands-there, done-before, done-last, done-one}
use Rattle.plain_histories.specs.Booking.{AreHeld, none_held}
use Rattle.plain_histories.specs.Ledgers.{Ledger}
use Rattle.plain_histories.proofs.Possible.{booked-ran}
use Rattle.letters.specs.Posts.{Post}
use Rattle.awaited_requests.specs.Awaited.{by_copy}
use Rattle.awaited_requests.proofs.Leads.{count-join, acting-leads}
use Rattle.awaited_requests.specs.takeover_laws.specs.Invariant.{IsRepeatable, Stage, IsLead, is_level, is_applied}
use Rattle.awaited_requests.specs.takeover_laws.specs.Invariant.{is_behind, IsSound}
use Rattle.awaited_requests.specs.takeover_laws.proofs.Backed.{next-is}
use Rattle.idle_end.proofs.CaughtUp.{HasPast, AwaitsMore, IsStuck, caught, grown-same}
use Rattle.idle_end.proofs.Closing.{CanClose}
use Rattle.idle_end.proofs.Ends.{IsEnd, who_acts, acting, only-acts}
use Rattle.idle_end.proofs.Awaited.{unanswered, at-server}
use Rattle.idle_end.proofs.Doing.{TakesIn, takes-in}

got-again : (deed : Deed) → TakesIn deed → IsRepeatable deed → point_of deed ≡ point.Await
got-again (Got file words) takes_in again = refl
got-again (Took place words) takes_in again = absurd again
got-again Went takes_in again = absurd takes_in
got-again Checkpointed takes_in again = absurd takes_in
got-again (Asked file words) takes_in again = absurd takes_in
got-again (Answered place words) takes_in again = absurd takes_in
got-again (Acted call found) takes_in again = absurd takes_in

-- a core that has done some deeds of a process can do the next one
next-advances : {site : Site} {number : ℕ} {spec : ProcessSpec} {deeds : List Deed} {core last : Core}
    (since : List Deed) (next : Deed) (before : List Deed)
    → deeds ≡ since ++ next ∷ before → HasDone site number spec deeds last → HasDone site number spec before core
    → (after : Core) × Advances (openers_of site number) core next after
next-advances {site = site} {number = number} {spec = spec} {last = last} since next before split all done =
    let whole = done-before since (next ∷ before) (subst (λ deeds. HasDone site number spec deeds last) split all) in
    (whole.0, done-last done whole.1)

-- how the copy of a process that acts stands to its deeds: it has done all of them and then its held acts, or it awaits
-- a reply
record StandsAt (site : Site) (w : World) (ledger : Ledger) (number : ℕ) (spec : ProcessSpec) : Type 0 where
  pair : Pair
  there : slice_get w.processes number ≡ Some pair
  past : List Deed
  grown : HasGrown past (ledger.deeds number)
  more : List Deed
  held : AreHeld site ledger number (copy_of (who_acts pair) pair).held more
  done : HasDone site number spec (more ++ past) (copy_of (who_acts pair) pair).core
  position : (copy_of (who_acts pair) pair).position ≡ length past
  ends : (ledger.deeds number ≡ past) ⊎ ((process.point (copy_of (who_acts pair) pair).core.state ≡ point.Await)
      × (more ≡ []))

module _ {site : Site} {events : ℕ} {post : Post} (end : IsEnd site events post) where
  -- the ledger of the kept acts
  abbrev pub the_ledger : Ledger
  the_ledger = end.good.invariant.ledger

  stands-at : (number : ℕ) (spec : ProcessSpec) → slice_get site.processes number ≡ Some spec
      → StandsAt site post.world the_ledger number spec
  stands-at number spec known =
      let seat = end.seated.processes number spec known in
      let role = acting end number seat.0 seat.1 in
      let was = end.good.invariant.processes number seat.0 seat.1 in
      let same : was.0 ≡ spec = some-same (sym was.1 ∙ known) in
      let sound : IsSound site the_ledger events number spec seat.0 =
      subst (λ (s : ProcessSpec). IsSound site the_ledger events number s seat.0) same was.2 in
      by seat.0 seat.1 role (acting-leads seat.0 (who_acts seat.0) sound.led role).1
    where
      by : (pair : Pair) → slice_get post.world.processes number ≡ Some pair
          → (copy_of (who_acts pair) pair).role ≡ Acting → {stage : Stage}
          → IsLead site the_ledger number spec (the_ledger.deeds number) (copy_of (who_acts pair) pair) stage
          → StandsAt site post.world the_ledger number spec
      by pair there role (is_level {more = more} is held position done sent) = record {
        pair = pair;
        there = there;
        past = the_ledger.deeds number;
        grown = grown-none (the_ledger.deeds number);
        more = more;
        held = rw is held;
        done = done;
        position = position;
        ends = inl refl;
      }
      by pair there role (is_applied before is split position done) =
          -- it stands at a checkpoint, which it could pass or send
          let all = (booked-ran end.fit.regular end.good.invariant.booked).agrees.processes number spec known in
          let next_done = next-advances [] Checkpointed before split all.2.done done in
          absurd (takes-in end number pair (who_acts pair) there role next_done.1)
      by pair there role (is_behind since next before is split one all position done unsent) = record {
        pair = pair;
        there = there;
        past = before;
        grown = (since ++ next ∷ [], split ∙ sym (append_assoc since (next ∷ []) before));
        more = [];
        held = rw is none_held;
        done = done;
        position = position;
        ends = inr (awaits, refl);
      }
        where
          awaits : process.point (copy_of (who_acts pair) pair).core.state ≡ point.Await
          awaits =
              let all = (booked-ran end.fit.regular end.good.invariant.booked).agrees.processes number spec known in
              let next_done = next-advances since next before split all.2.done done in
              stands-there next_done.1 ∙ got-again next
              (takes-in end number pair (who_acts pair) there role next_done.1) one

  abbrev past-at : (number : ℕ) (spec : ProcessSpec) → slice_get site.processes number ≡ Some spec
      → HasPast site number spec (the_ledger.deeds number)
  past-at number spec known = record {
    past = (stands-at number spec known).past;
    grown = (stands-at number spec known).grown;
    core = (done-before (stands-at number spec known).more (stands-at number spec known).past
        (stands-at number spec known).done).0;
    done = (done-before (stands-at number spec known).more (stands-at number spec known).past
        (stands-at number spec known).done).1;
  }

  -- a copy that awaits a reply has asked more than its server's copy has answered of what is kept
  few-answered : (number : ℕ) (spec : ProcessSpec) (past : List Deed) (pair : Pair) (opener : Opener)
      (server : ProcessSpec)
      → slice_get site.processes number ≡ Some spec → slice_get post.world.processes number ≡ Some pair
      → HasDone site number spec past (copy_of (who_acts pair) pair).core
      → process.point (copy_of (who_acts pair) pair).core.state ≡ point.Await
      → opener_of site (who.File number (process.asked_file (copy_of (who_acts pair) pair).core.state)) ≡ Some opener
      → (it : StandsAt site post.world the_ledger opener.server server)
      → length (answered_to opener.place it.past)
      < length (requests_on (process.asked_file (copy_of (who_acts pair) pair).core.state) past)
  few-answered number spec past pair opener server known there done awaits opens it =
      let file : ℕ = process.asked_file (copy_of (who_acts pair) pair).core.state in
      let next = next-is site end.fit.regular number spec known past file opener opens done in
      let awaited =
      by_copy {number = number} pair (who_acts pair) there (acting end number pair there) awaits refl next in
      let has = at-server end _ (who.File number file) (length (requests_on file past)) opener it.pair
      (who_acts it.pair) opens it.there
      (acting end opener.server it.pair it.there) awaited in
      let fewer = unanswered (copy_of (who_acts it.pair) it.pair) opener (length (requests_on file past)) it.done has in
      let count = count-join (answer_to opener.place) it.more it.past in
      omega (arith, fewer, count)

  stuck : (number : ℕ) (spec : ProcessSpec) (known : slice_get site.processes number ≡ Some spec)
      → IsStuck site end.fit.regular the_ledger past-at number spec known
  stuck number spec known = by (stands-at number spec known).ends
    where
      by : (the_ledger.deeds number ≡ (stands-at number spec known).past)
          ⊎ ((process.point (copy_of (who_acts (stands-at number spec known).pair)
          (stands-at number spec known).pair).core.state ≡ point.Await)
          × ((stands-at number spec known).more ≡ []))
          → IsStuck site end.fit.regular the_ledger past-at number spec known
      by (inl same) = inl same
      by (inr (awaits, none)) =
          let me = stands-at number spec known in
          let done : HasDone site number spec me.past (copy_of (who_acts me.pair) me.pair).core =
          subst (λ more. HasDone site number spec (more ++ me.past) (copy_of (who_acts me.pair) me.pair).core) none
          me.done in
          let same : (copy_of (who_acts me.pair) me.pair).core ≡ (past-at number spec known).core =
          done-one done (past-at number spec known).done in
          inr (subst (AwaitsMore site end.fit.regular the_ledger past-at number me.past) same (
            awaits,
            λ opener server its opens. few-answered number spec me.past me.pair opener server known me.there
                done awaits opens (stands-at opener.server server its),
          ))

  -- each process's copy that acts has done all of its deeds
  level : (number : ℕ) (spec : ProcessSpec) (known : slice_get site.processes number ≡ Some spec)
      → the_ledger.deeds number ≡ (stands-at number spec known).past
  level number spec known =
      grown-same (stands-at number spec known).grown
      (caught site end.fit.regular the_ledger past-at stuck end.good.invariant.booked
      (λ other. grown-none (the_ledger.deeds other)) number spec known)

  pub caught-up : (number : ℕ) (pair : Pair) (k : Which) → slice_get post.world.processes number ≡ Some pair
      → (copy_of k pair).role ≡ Acting
      → (copy_of k pair).position ≡ length (the_ledger.deeds number)
  caught-up number pair k there role =
      let was = end.good.invariant.processes number pair there in
      let at = stands-at number was.0 was.1 in
      let same : at.pair ≡ pair = some-same (sym at.there ∙ there) in
      let copy_same : copy_of (who_acts at.pair) at.pair ≡ copy_of k pair =
      ap (λ (p : Pair). copy_of (who_acts p) p) same
      ∙ ap (λ j. copy_of j pair) (sym (only-acts end number pair k there role)) in
      ap (λ (c : Copy). c.position) (sym copy_same) ∙ at.position ∙ ap length (sym (level number was.0 was.1))

  -- so its held acts may follow
  pub can-close : (number : ℕ) (pair : Pair) → slice_get post.world.processes number ≡ Some pair
      → CanClose site the_ledger number pair (who_acts pair)
  can-close number pair there =
      let was = end.good.invariant.processes number pair there in
      let at = stands-at number was.0 was.1 in
      let same : at.pair ≡ pair = some-same (sym at.there ∙ there) in
      subst (λ (p : Pair). CanClose site the_ledger number p (who_acts p)) same (record {
        spec = was.0;
        there = was.1;
        more = at.more;
        held = at.held;
        done = rw (level number was.0 was.1) at.done;
        free = (end.seated.pairs number at.pair at.there).one_holds (who_acts at.pair)
            (acting end number at.pair at.there);
      })
