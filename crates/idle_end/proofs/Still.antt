-- After the kept acts and the held ones no act is left, and each process is as its copy that acts.
use Rattle.std.proofs.Common.{◌≡◌, inl, inr, ℕ, ℤ, List, length, map, reverse, Option, Some, None, slice_get, refl, ap}
use Rattle.std.proofs.Common.{sym, ◌∙◌, subst, arith}
use Rattle.std.proofs.lemmas.Option.{slice_get_within, slice_get_cases}
use Rattle.tal_tree.specs.declared.act.Act.{Act}
use Rattle.tal_tree.specs.declared.act.Act.TheVariants as act
use Rattle.tal_tree.specs.declared.site.Site.{Site}
use Rattle.tal_tree.specs.declared.site.ProcessSpec.{ProcessSpec}
use Rattle.tal_tree.specs.declared.site.Who.TheVariants as who
use Rattle.process_semantics.specs.declared.point.Point.{Point}
use Rattle.process_semantics.specs.declared.point.Point.TheVariants as point
use Rattle.process_semantics.specs.Process as process
use Rattle.plain_semantics.specs.declared.slot.Opener.{Opener}
use Rattle.plain_semantics.specs.declared.slot.Slot.{Slot}
use Rattle.plain_semantics.specs.declared.slot.Slot.TheVariants.{Empty, Waiting, Taken, Answered}
use Rattle.plain_semantics.specs.Openers.{openers_of, opener_of}
use Rattle.plain_semantics.specs.Machine.{PlainProcess, Made, made, made_all, plain_start, slot_of, step_made}
use Rattle.plain_semantics.specs.Machine.{take_slot, take_at, take_made, enter_request, enter_made, print_made}
use Rattle.plain_semantics.specs.Machine.{next_request, entered_at, IsStill, IsNoneLeft, shown_by}
use Rattle.disc_device.specs.Sectors.{Stored}
use Rattle.world_semantics.specs.declared.role.Role.TheVariants.{Acting}
use Rattle.world_semantics.specs.declared.which.Which.{Which}
use Rattle.world_semantics.specs.Core.{Core, Deed, Took, Advances, goes, checkpoints, takes, asks, gets, answers, acts}
use Rattle.world_semantics.specs.Shares.{closed}
use Rattle.world_semantics.specs.Rules.{by_enter}
use Rattle.world_semantics.specs.World.{Pair, copy_of}
use Rattle.world_semantics.proofs.Lists.{some-same}
use Rattle.process_histories.specs.Devices.{sectors_after}
use Rattle.process_histories.proofs.Deeds.{done-one}
use Rattle.plain_histories.specs.Agreeing.{HasSlotOf}
use Rattle.plain_histories.specs.Booking.{IsAllowed, CanDo}
use Rattle.plain_histories.specs.Slots.{is_empty, is_answered}
use Rattle.plain_histories.proofs.Acting.{step-deed, take-deed}
use Rattle.plain_histories.proofs.Openers.{opener-terminal}
use Rattle.letters.specs.Posts.{Post}
use Rattle.idle_end.specs.Ends.{IsAsCopy}
use Rattle.idle_end.proofs.Closed.{IsClosed, is-closed}
use Rattle.idle_end.proofs.Ends.{IsEnd, who_acts, acting, only-acts}
use Rattle.idle_end.proofs.Doing.{TakesIn, takes-in}
use Rattle.idle_end.proofs.Lacking.{copy-done, terminal-there, none-answered, none-waiting}

module _ {site : Site} {events : ℕ} {post : Post} (end : IsEnd site events post)
    (all : IsClosed site post end.good.invariant.ledger) where
  -- a copy that acts can do nothing that the ledger allows
  none-allowed : (number : ℕ) (spec : ProcessSpec) (pair : Pair) {deed : Deed} {next : Core}
      → slice_get post.world.processes number ≡ Some pair
      → Advances (openers_of site number) (copy_of (who_acts pair) pair).core deed next
      → IsAllowed site all.last number spec deed → ⊥
  none-allowed number spec pair there advances allowed =
      by advances (takes-in end number pair (who_acts pair) there (acting end number pair there) advances) allowed
    where
      by : {deed : Deed} {next : Core} → Advances (openers_of site number) (copy_of (who_acts pair) pair).core deed
          next → TakesIn deed
          → IsAllowed site all.last number spec deed → ⊥
      by (takes {place = place} {words = words} block at known) takes_in (one, opens, waits) =
          none-waiting end all number place pair one words there at opens waits
      by (gets {file = file} {words = words} at named) takes_in (opener, opens, ready) =
          none-answered end all (who.File number file) opener words opens ready
      by (goes at) takes_in allowed = takes_in
      by (checkpoints at) takes_in allowed = takes_in
      by (asks at named said) takes_in allowed = takes_in
      by (answers opener block at hand known placed said) takes_in allowed = takes_in
      by (acts at call) takes_in allowed = takes_in

  none-done : (number : ℕ) (spec : ProcessSpec) (deed : Deed) → slice_get site.processes number ≡ Some spec
      → CanDo site all.last number spec deed → ⊥
  none-done number spec deed known can =
      let seat = end.seated.processes number spec known in
      let same = done-one can.done (copy-done end all number spec seat.0 known seat.1) in
      none-allowed number spec seat.0 seat.1 (subst (λ (c : Core). Advances (openers_of site number) c deed can.after)
      same can.advances) can.allowed

  spec-there : (number : ℕ) (one : PlainProcess) → slice_get all.plain.processes number ≡ Some one
      → (spec : ProcessSpec) × (slice_get site.processes number ≡ Some spec)
  spec-there number one there =
      let within = slice_get_within all.plain.processes number one there in
      let count = all.owned.count in
      elim (slice_get_cases site.processes number).1 [
        | inl found ↦ (found.0, found.2)
        | inr past ↦ absurd (omega (arith, within, count, past.0))
      ]

  -- No process makes an act

  pub none-stepped : (number : ℕ) (m : Made) → made site all.plain (act.Step number) ≡ Some m → ⊥
  none-stepped number m is = by (slice_get all.plain.processes number) refl is
    where
      by : (one : Option PlainProcess) → slice_get all.plain.processes number ≡ one
          → step_made site number all.plain one ≡ Some m → ⊥
      by None there makes = cc
      by (Some one) there makes =
          let spec = spec-there number one there in
          let seat = end.seated.processes number spec.0 spec.1 in
          let step = step-deed site all.plain all.last number spec.0 m end.fit.regular all.agrees spec.1
          (all.bounded number seat.0 seat.1) is in
          none-done number spec.0 step.deed spec.1 step.can

  none-taken : (number place : ℕ) (m : Made) → made site all.plain (act.Take number place) ≡ Some m → ⊥
  none-taken number place m is = by (slice_get all.plain.processes number) refl is
    where
      waits : (one : PlainProcess) → slice_get all.plain.processes number ≡ Some one → (words : List ℤ)
          → slice_get one.slots place ≡ Some (Waiting words) → ⊥
      waits one there words found =
          let owner = (all.owned.each number one there).slots place (Waiting words) found (λ e. absurd (cc)) in
          let spec = spec-there number one there in
          let taken = take-deed site all.plain all.last number spec.0 m all.agrees spec.1 owner.0 place owner.1 is in
          none-done number spec.0 (Took place taken.0) spec.1 taken.1

      slot : (one : PlainProcess) → slice_get all.plain.processes number ≡ Some one → (slot : Option Slot)
          → slice_get one.slots place ≡ slot
          → take_slot number place one all.plain slot ≡ Some m → ⊥
      slot one there None found makes = cc
      slot one there (Some Empty) found makes = cc
      slot one there (Some Taken) found makes = cc
      slot one there (Some (Answered words)) found makes = cc
      slot one there (Some (Waiting words)) found makes = waits one there words found

      at : (one : PlainProcess) → slice_get all.plain.processes number ≡ Some one → (p : Point)
          → take_at number place one all.plain p ≡ Some m → ⊥
      at one there point.Take makes = slot one there (slice_get one.slots place) refl makes
      at one there point.Inner makes = cc
      at one there point.Ask makes = cc
      at one there point.Await makes = cc
      at one there point.Answer makes = cc
      at one there point.AtCheckpoint makes = cc
      at one there point.Device makes = cc
      at one there point.Ended makes = cc

      by : (one : Option PlainProcess) → slice_get all.plain.processes number ≡ one
          → take_made number place all.plain one ≡ Some m → ⊥
      by None there makes = cc
      by (Some one) there makes = at one there (process.point one.state) makes

  -- Nor does a terminal

  -- what its slot is, as the ledger says
  abbrev SlotOf : ℕ → Opener → Slot → Type 0
  SlotOf terminal opener slot = HasSlotOf all.last (who.Terminal terminal) opener slot

  none-entered : (terminal : ℕ) (m : Made) → made site all.plain (act.Enter terminal) ≡ Some m → ⊥
  none-entered terminal m is = by (opener_of site (who.Terminal terminal)) refl is
    where
      enters : (opener : Opener) → opener_of site (who.Terminal terminal) ≡ Some opener → SlotOf terminal opener Empty
          → (next : Option (List ℤ)) → next_request site terminal (entered_at all.plain terminal) ≡ next
          → enter_request terminal (Some opener) all.plain next ≡ Some m → ⊥
      enters opener opens slot None next makes = cc
      enters opener opens (is_empty asked even last) (Some words) next makes =
          let has = terminal-there end all terminal opener opens in
          let spec = opener-terminal site terminal opener opens in
          let count : entered_at all.plain terminal ≡ length (all.last.entered terminal) =
          rw (all.agrees.entered terminal spec.0 spec.1) refl in
          end.idle.enters terminal _ _ (by_enter terminal has.0 opener has.1
          (omega (arith, has.2, has.3, ap length asked, even, ap length last))
          (subst (λ k. next_request site terminal k ≡ Some words) (count ∙ sym has.2) next) opens)

      slot : (opener : Opener) → opener_of site (who.Terminal terminal) ≡ Some opener → (slot : Slot)
          → SlotOf terminal opener slot
          → enter_made site terminal (Some opener) all.plain (Some slot) ≡ Some m → ⊥
      slot opener opens Empty has makes =
          enters opener opens has (next_request site terminal (entered_at all.plain terminal)) refl makes
      slot opener opens (Waiting words) has makes = cc
      slot opener opens Taken has makes = cc
      slot opener opens (Answered words) has makes = cc

      by : (opener : Option Opener) → opener_of site (who.Terminal terminal) ≡ opener
          → enter_made site terminal opener all.plain (slot_of all.plain opener) ≡ Some m → ⊥
      by None opens makes = cc
      by (Some opener) opens makes =
          let has = all.agrees.slots (who.Terminal terminal) opener opens in
          slot opener opens has.0 has.2 (ap (enter_made site terminal (Some opener) all.plain) (sym has.1) ∙ makes)

  none-printed : (terminal : ℕ) (m : Made) → made site all.plain (act.Print terminal) ≡ Some m → ⊥
  none-printed terminal m is = by (opener_of site (who.Terminal terminal)) refl is
    where
      slot : (opener : Opener) → opener_of site (who.Terminal terminal) ≡ Some opener → (slot : Slot)
          → SlotOf terminal opener slot
          → print_made terminal (Some opener) all.plain (Some slot) ≡ Some m → ⊥
      slot opener opens Empty has makes = cc
      slot opener opens (Waiting words) has makes = cc
      slot opener opens Taken has makes = cc
      slot opener opens (Answered words) (is_answered asked even last) makes =
          none-answered end all (who.Terminal terminal) opener words opens last

      by : (opener : Option Opener) → opener_of site (who.Terminal terminal) ≡ opener
          → print_made terminal opener all.plain (slot_of all.plain opener) ≡ Some m → ⊥
      by None opens makes = cc
      by (Some opener) opens makes =
          let has = all.agrees.slots (who.Terminal terminal) opener opens in
          slot opener opens has.0 has.2 (ap (print_made terminal (Some opener) all.plain) (sym has.1) ∙ makes)

  none-made : (act : Act) (m : Made) → made site all.plain act ≡ Some m → ⊥
  none-made (act.Step number) m is = none-stepped number m is
  none-made (act.Take number place) m is = none-taken number place m is
  none-made (act.Enter terminal) m is = none-entered terminal m is
  none-made (act.Print terminal) m is = none-printed terminal m is

  still : IsStill site all.plain
  still act = by (made site all.plain act) refl
    where
      by : (m : Option Made) → made site all.plain act ≡ m → made site all.plain act ≡ None
      by None is = is
      by (Some m) is = absurd (none-made act m is)

  -- Each process is as its copy that acts

  as-copy : (m : Made) (number : ℕ) (pair : Pair) (k : Which) (one : PlainProcess)
      → made_all site (plain_start site) (closed post.world) ≡ Some m
      → slice_get post.world.processes number ≡ Some pair → (copy_of k pair).role ≡ Acting
      → slice_get m.plain.processes number ≡ Some one
      → IsAsCopy one (copy_of k pair) pair
  as-copy m number pair k one ran there role at =
      let same : m ≡ record { plain = all.plain; shown = reverse post.world.shown } = some-same (sym ran ∙ all.ran) in
      let here : slice_get all.plain.processes number ≡ Some one =
      subst (λ (x : Made). slice_get x.plain.processes number ≡ Some one) same at in
      let was = end.good.invariant.processes number pair there in
      let its = all.agrees.processes number was.0 was.1 in
      let one_same : its.0 ≡ one = some-same (sym its.1 ∙ here) in
      let core_same : its.2.core ≡ (copy_of k pair).core =
      done-one its.2.done (copy-done end all number was.0 pair was.1 there)
      ∙ ap (λ j. (copy_of j pair).core) (sym (only-acts end number pair k there role)) in
      let has = all.each number pair there in
      let spec_same : has.spec ≡ was.0 = some-same (sym has.there ∙ was.1) in
      let sectors : sectors_after was.0.what (all.last.deeds number) ≡ pair.sectors =
      subst (λ (s : ProcessSpec). sectors_after s.what (all.last.deeds number)
      ≡ sectors_after s.what (end.good.invariant.ledger.deeds number)) spec_same has.sectors
      ∙ sym was.2.sectors in
      record {
        state = ap (λ (p : PlainProcess). p.state) (sym one_same) ∙ its.2.state ∙ ap (λ (c : Core). c.state) core_same;
        sectors = ap (λ (p : PlainProcess). p.sectors) (sym one_same) ∙ its.2.sectors
            ∙ ap (map (λ (s : Stored). s.words)) sectors;
      }

module _ {site : Site} {events : ℕ} {post : Post} (end : IsEnd site events post) where
  -- no act is left
  pub none-left : IsNoneLeft site (closed post.world)
  none-left = (_, (is-closed end).ran, still end (is-closed end))

  -- the held acts show nothing
  pub closed-shows-nothing : shown_by site (closed post.world) ≡ reverse post.world.shown
  closed-shows-nothing = rw (is-closed end).ran refl

  -- each process is as its copy that acts
  pub same-state : (m : Made) (number : ℕ) (pair : Pair) (k : Which) (one : PlainProcess)
      → made_all site (plain_start site) (closed post.world) ≡ Some m
      → slice_get post.world.processes number ≡ Some pair → (copy_of k pair).role ≡ Acting
      → slice_get m.plain.processes number ≡ Some one
      → IsAsCopy one (copy_of k pair) pair
  same-state = as-copy end (is-closed end)
