-- What holds of each world that a run reaches.
use Rattle.std.proofs.Common.{◌≡◌, ◌↔◌, subst, ℕ, true, List, Some, slice_get, sym, ◌∙◌, Bool, false, length, refl, ◌<◌}
use Rattle.std.proofs.Common.{◌==◌, ◌≢◌}
use Rattle.std.proofs.lemmas.Bool.{eqb-true}
use Rattle.checkpoint_image.specs.tal_tree.specs.declared.site.Site.{Site}
use Rattle.checkpoint_image.specs.tal_tree.specs.declared.act.Act.{Act}
use Rattle.schedule.specs.declared.event.Event.{Event}
use Rattle.world_semantics.specs.declared.role.Role.TheVariants.{Acting, Gone}
use Rattle.world_semantics.specs.World.{Pair, Terminal, World, Which, First, Second, copy_of, Down, has_marked}
use Rattle.world_semantics.specs.World.{is_running}
use Rattle.world_semantics.specs.World.{other_of, receives}
use Rattle.world_semantics.specs.Follows.{Leads, IsRun}
use Rattle.world_semantics.specs.Laws.{IsLaterPair, IsLaterTerminal, IsPlaced, KeepsUp}
use Rattle.world_semantics.proofs.Lists.{some-same}
use Rattle.world_semantics.proofs.Runs.{leads-keep, holds-on}
use Rattle.world_semantics.proofs.Growing.{Grows, growth, AreStopped, change-downs}
use Rattle.world_semantics.proofs.Roles.{RolesOf, AllRoles, roles-begin, change-roles}
use Rattle.world_semantics.proofs.Positions.{AllBounds, bounds-begin, change-bounds}
use Rattle.world_semantics.proofs.Later.{pairs-go-on, terminals-go-on}
use Rattle.world_semantics.proofs.Beginning.{all-begin}
use Rattle.world_semantics.proofs.Behind.{AllSeen, BothSeen, begin-seen, change-seen}
use Rattle.world_semantics.proofs.Steady.{IsSeated, IsSteady, Waits, change-seated, change-steady, seats-begin}
use Rattle.world_semantics.proofs.Steady.{steady-begins, survivor}
use Rattle.world_semantics.specs.Core.{Core, Deed}
use Rattle.world_semantics.specs.Messages.{Cause, Message, Reloading, Sending}
use Rattle.world_semantics.specs.Own.{Around, Causes, by_answer, by_ask, by_device, by_inner, by_reply, by_take}
use Rattle.world_semantics.specs.Own.{by_write}
use Rattle.world_semantics.specs.Passes.{Passes, by_acknowledge, by_apply, by_apply_behind, by_end, by_pass}
use Rattle.world_semantics.specs.Passes.{by_pass_again, by_send}
use Rattle.world_semantics.specs.Rules.{Change, by_checkpoint, by_early_request, by_enter, by_mark, by_own, by_print}
use Rattle.world_semantics.specs.Rules.{by_reload, by_request, by_stop}

pub run-downs : {site : Site} {events : List Event} {w : World} → IsRun site events w → AreStopped w
run-downs run = holds-on AreStopped change-downs run (λ m i. absurd i)

pub run-roles : {site : Site} {events : List Event} {w : World} → IsRun site events w → AllRoles w
run-roles {site = site} run = holds-on AllRoles change-roles run (roles-begin site)

pub run-bounds : {site : Site} {events : List Event} {w : World} → IsRun site events w → AllBounds w
run-bounds {site = site} run = holds-on AllBounds change-bounds run (bounds-begin site)

-- with the marks, what is steady
record AreSteady (w : World) : Type 0 where
  pub downs : AreStopped w
  pub steady : IsSteady w

pub run-steady : {site : Site} {events : List Event} {w : World} → IsRun site events w → IsSteady w
run-steady {site = site} run =
    (holds-on AreSteady (λ w next cause sendings change ok. record {
      downs = change-downs w next cause sendings change ok.downs;
      steady = change-steady w next cause sendings ok.downs change ok.steady;
    }) run (record { downs = λ m i. absurd i; steady = steady-begins site })).steady

pub leads-grow : {site : Site} {events : List Event} {w end : World} → Leads site w events end → Grows w end
leads-grow {site = site} l = leads-keep (growth site) l

pub pair-later : {site : Site} {events : List Event} {w end : World} → Leads site w events end
    → (number : ℕ) (before after : Pair)
    → slice_get w.processes number ≡ Some before → slice_get end.processes number ≡ Some after
    → IsLaterPair before after
pair-later {site = site} l number before after there then =
    let a = leads-keep (pairs-go-on site) l number before there in
    subst (IsLaterPair before) (some-same (sym a.1 ∙ then)) a.2

pub terminal-later : {site : Site} {events : List Event} {w end : World} → Leads site w events end
    → (number : ℕ) (before after : Terminal)
    → slice_get w.terminals number ≡ Some before → slice_get end.terminals number ≡ Some after
    → IsLaterTerminal before after
terminal-later {site = site} l number before after there then =
    let a = leads-keep (terminals-go-on site) l number before there in
    subst (IsLaterTerminal before) (some-same (sym a.1 ∙ then)) a.2

pub gone-is : (stopped : _) (pair : Pair) → RolesOf stopped pair → (k : Which)
    → ((copy_of k pair).role ≡ Gone ↔ slice_get stopped (copy_of k pair).processor ≡ Some true)
gone-is stopped pair ok First = (ok.first_lost, ok.first_gone)
gone-is stopped pair ok Second = (ok.second_lost, ok.second_gone)

pub one-acts : (stopped : _) (pair : Pair) → RolesOf stopped pair → pair.first.role ≡ Acting
    → pair.second.role ≡ Acting → ⊥
one-acts stopped pair ok one two = ok.single one two

-- Keeping up

own-not : {site : Site} {number node x : ℕ} {core : Core} {before after : Around} {cause : Cause} {deed : Deed}
    {act : Act} {messages : List Message}
    → Causes site number node core before cause deed act messages after → cause ≡ Reloading x → ⊥
own-not by_inner e = cc
own-not (by_take c) e = cc
own-not by_ask e = cc
own-not (by_answer s) e = cc
own-not (by_device n) e = cc
own-not (by_write n) e = cc
own-not (by_reply i o n u) e = cc

passes-not : {number x : ℕ} {downs : List Down} {kept after : List Act} {pair next : Pair} {cause : Cause}
    {sendings : List Sending}
    → Passes number downs kept pair cause sendings next after → cause ≡ Reloading x → ⊥
passes-not (by_send k r p s m) e = cc
passes-not (by_pass_again k r p m l) e = cc
passes-not (by_pass k r p m l) e = cc
passes-not (by_end k r s p m) e = cc
passes-not (by_apply k message applied r i era n a l) e = cc
passes-not (by_apply_behind k message applied r i era n a l) e = cc
passes-not (by_acknowledge k taken r s i era n) e = cc

-- what a reload needs
pub record Reloads (w : World) (x : ℕ) : Type 0 where
  pub down : slice_get w.stopped x ≡ Some true
  pub all : (node : ℕ) → is_running w.stopped node ≡ true → has_marked w.downs node x ≡ true

same-reload : {x y : ℕ} → Reloading x ≡ Reloading y → x ≡ y
same-reload e = cc

pub reload-needs : {site : Site} (w next : World) (cause : Cause) (sendings : List Sending)
    → Change site w cause sendings next → (x : ℕ) → cause ≡ Reloading x → Reloads w x
reload-needs w next cause sendings (by_own number k pair there r c a e f) x is = absurd (own-not c is)
reload-needs w next cause sendings (by_checkpoint number pair there p) x is = absurd (passes-not p is)
reload-needs w next cause sendings (by_request request k pair i there r) x is = absurd (cc)
reload-needs w next cause sendings (by_early_request request k pair i there r) x is = absurd (cc)
reload-needs w next cause sendings (by_enter number terminal opener t f q o) x is = absurd (cc)
reload-needs w next cause sendings (by_print number terminal reply t f i o n) x is = absurd (cc)
reload-needs w next cause sendings (by_stop y s h) x is = absurd (cc)
reload-needs w next cause sendings (by_mark node y s q n) x is = absurd (cc)
reload-needs w next cause sendings (by_reload y s m t l) x is =
    subst (Reloads w) (same-reload is) (record { down = s; all = m })

not-equal : (a b : ℕ) → a ≢ b → (a == b) ≡ false
not-equal a b apart = by (a == b) refl
  where
    by : (t : Bool) → (a == b) ≡ t → t ≡ false
    by true e = absurd (apart (eqb-true a b e))
    by false e = refl

pub record AllKept (site : Site) (w : World) : Type 0 where
  pub roles : AllRoles w
  pub downs : AreStopped w
  pub steady : IsSteady w
  pub seated : IsSeated site w
  pub seen : AllSeen w

pub survives : (site : Site) → IsPlaced site → (w : World) → AllKept site w → (x : ℕ) → Reloads w x
    → (number : ℕ) (pair : Pair) → slice_get w.processes number ≡ Some pair
    → ((pair.first.processor == x) ≡ true → (pair.second.role ≡ Acting) × ((pair.second.processor == x) ≡ false))
    × ((pair.second.processor == x) ≡ true → (pair.first.role ≡ Acting) × ((pair.first.processor == x) ≡ false))
survives site placed w ok x is number pair at =
    let seat = ok.seated.pairs number pair at in
    let fits = placed number seat.0 seat.1 in
    let one : pair.first.processor < length w.stopped = rw (ok.seated.processors, seat.2) fits.0 in
    let two : pair.second.processor < length w.stopped = rw (ok.seated.processors, seat.3) fits.1 in
    let apart : pair.first.processor ≢ pair.second.processor = λ e. fits.2 (sym seat.2 ∙ e ∙ seat.3) in
    let r = ok.roles number pair at in
    let waits = ok.steady.pairs number pair at in (
      λ t. (let same = eqb-true pair.first.processor x t in
          let off : pair.second.processor ≢ x = λ e. apart (same ∙ sym e) in (
            survivor w.stopped w.downs x pair.second.processor pair.second.role is.down ok.steady.one off two is.all
                (subst (λ p. Waits w.stopped w.downs pair.second.role pair.second.processor p) same waits.second)
                r.second_lost,
            not-equal pair.second.processor x off,
          )),
      λ t. (let same = eqb-true pair.second.processor x t in
          let off : pair.first.processor ≢ x = λ e. apart (e ∙ sym same) in (
            survivor w.stopped w.downs x pair.first.processor pair.first.role is.down ok.steady.one off one is.all
                (subst (λ p. Waits w.stopped w.downs pair.first.role pair.first.processor p) same waits.first)
                r.first_lost,
            not-equal pair.first.processor x off,
          )),
    )

pub change-kept : (site : Site) → IsPlaced site → (w next : World) (cause : Cause) (sendings : List Sending)
    → Change site w cause sendings next → AllKept site w → AllKept site next
change-kept site placed w next cause sendings change ok = record {
  roles = change-roles w next cause sendings change ok.roles;
  downs = change-downs w next cause sendings change ok.downs;
  steady = change-steady w next cause sendings ok.downs change ok.steady;
  seated = change-seated w next cause sendings change ok.seated;
  seen = change-seen w next cause sendings change ok.roles ok.downs
      (λ x is. survives site placed w ok x (reload-needs w next cause sendings change x is)) ok.seen;
}

pub run-kept : {site : Site} {events : List Event} {w : World} → IsPlaced site → IsRun site events w → AllKept site w
run-kept {site = site} placed run = holds-on (AllKept site) (change-kept site placed) run (record {
  roles = roles-begin site;
  downs = λ mark i. absurd i;
  steady = steady-begins site;
  seated = seats-begin site;
  seen = all-begin (λ n p. BothSeen p) site (begin-seen site);
})

pub run-keeps-up : {site : Site} {events : List Event} {w : World} → IsPlaced site → IsRun site events w
    → (number : ℕ) (pair : Pair) → slice_get w.processes number ≡ Some pair
    → (k : Which) → receives (copy_of k pair).role ≡ true → KeepsUp (copy_of k pair) (copy_of (other_of k) pair)
run-keeps-up {site = site} {w = w} placed run number pair there k receiving = by k receiving
  where
    all : AllKept site w
    all = run-kept placed run

    by : (k : Which) → receives (copy_of k pair).role ≡ true → KeepsUp (copy_of k pair) (copy_of (other_of k) pair)
    by First r = let b = (all.seen number pair there).1.behind r in
        record { era = b.same_era; not_past = b.not_past; one_behind = b.one_behind; acknowledged = b.acknowledged }
    by Second r = let b = (all.seen number pair there).0.behind r in
        record { era = b.same_era; not_past = b.not_past; one_behind = b.one_behind; acknowledged = b.acknowledged }
