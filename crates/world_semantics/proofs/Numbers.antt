-- No era of a copy falls, and no number of its checkpoints while the era stays. A copy whose processor is loaded again
-- is in an era past that of the one that acts, and what was lost there is of no later era than that.
use Rattle.std.proofs.Common.{◌≡◌, ◌≢◌, ◌≤◌, ℕ, ◌+◌, List, Some, slice_get, refl, subst, sym, ◌∙◌, arith}
use Rattle.std.proofs.lemmas.Bool.{eq-eqb}
use Rattle.checkpoint_image.specs.tal_tree.specs.declared.act.Act.{Act}
use Rattle.checkpoint_image.specs.tal_tree.specs.declared.site.Site.{Site}
use Rattle.schedule.specs.declared.event.Event.{Event}
use Rattle.checkpoint_image.specs.declared.message.ImageMessage.{ImageMessage}
use Rattle.world_semantics.specs.World.{Copy, Pair, World, Which, First, Second, copy_of, other_of}
use Rattle.world_semantics.specs.Kept.{Enters, holds_on, repeats, begins, keeps}
use Rattle.world_semantics.specs.Messages.{Sending, Cause, Reloading}
use Rattle.world_semantics.specs.Rules.{Change}
use Rattle.world_semantics.specs.Follows.{Leads, IsRun}
use Rattle.world_semantics.specs.Laws.{IsLater, IsPlaced}
use Rattle.world_semantics.proofs.Lists.{some-same}
use Rattle.world_semantics.proofs.Runs.{holds-on}
use Rattle.world_semantics.proofs.Roles.{apart-of}
use Rattle.world_semantics.proofs.Becoming as becoming
use Rattle.world_semantics.proofs.Becoming.{Becomes, change-was}
use Rattle.world_semantics.proofs.Reached.{AllKept, change-kept, run-kept, survives, reload-needs}

later-same : (before after : Copy) → before.era ≡ after.era → before.number ≡ after.number → IsLater before after
later-same before after e n = record { era = omega (arith, e); number = λ _. omega (arith, n) }

later-both : {a b c : Copy} → IsLater a b → IsLater b c → IsLater a c
later-both f g = record {
  era = omega (arith, f.era, g.era);
  number = λ e. omega (arith, f.number (omega (arith, e, f.era, g.era)), g.number (omega (arith, e, f.era, g.era)));
}

next-number : (before after : Copy) → after.era ≡ before.era → after.number ≡ before.number + 1 → IsLater before after
next-number before after e n = record { era = omega (arith, e); number = λ _. omega (arith, n) }

later-era : (before after : Copy) → before.era + 1 ≤ after.era → IsLater before after
later-era before after l = record { era = omega (arith, l); number = λ same. absurd (omega (arith, l, same)) }

entered-later : {number : ℕ} {done : Act} {kept after : List Act} {copy entered : Copy}
    → Enters number done kept copy entered after → (copy.era ≡ entered.era) × (copy.number ≡ entered.number)
entered-later (holds_on e) = (refl, refl)
entered-later (repeats e l) = (refl, refl)
entered-later (begins e l t) = (refl, refl)
entered-later (keeps e l t) = (refl, refl)

-- a copy that a change makes blank is in a processor of which the other copy isn't, and of no later era than that one
record CanBeBlank (pair : Pair) (k : Which) : Type 0 where
  apart : (copy_of (other_of k) pair).processor ≢ (copy_of k pair).processor
  era : (copy_of k pair).era ≤ (copy_of (other_of k) pair).era

becomes-later : {site : Site} {w : World} {number : ℕ} {pair : Pair} {sent : List ImageMessage} {k : Which}
    {cause : Cause} {after : Copy} → Becomes site w number pair sent k cause after
    → (cause ≡ Reloading (copy_of k pair).processor → CanBeBlank pair k)
    → IsLater (copy_of k pair) after
becomes-later becoming.stays can = later-same _ _ refl refl
becomes-later (becoming.acts r c a e fr) can = let same = entered-later e in later-same _ _ same.0 same.1
becomes-later (becoming.sends r p i) can = next-number _ _ refl refl
becomes-later (becoming.passes r) can = later-same _ _ refl refl
becomes-later (becoming.ends r) can = later-same _ _ refl refl
becomes-later (becoming.applies message r i e n a) can = next-number _ _ refl n
becomes-later (becoming.is_told taken r s i e n) can = later-same _ _ refl refl
becomes-later becoming.is_freed can = later-same _ _ refl refl
becomes-later becoming.needs_less can = later-same _ _ refl refl
becomes-later (becoming.hears request r) can = later-same _ _ refl refl
becomes-later (becoming.hears_early request r) can = later-same _ _ refl refl
becomes-later (becoming.stops processor) can = later-same _ _ refl refl
becomes-later (becoming.takes_over node processor t) can = later-era _ _ (omega arith)
becomes-later {pair = pair} {k = k} (becoming.is_blank {era = era} processor here next) can =
    let blank = can (subst (λ x. Reloading processor ≡ Reloading x) (sym here) refl) in
    let is : era ≡ (copy_of (other_of k) pair).era + 1 = next (λ e. blank.apart (e ∙ sym here)) in
    let l = blank.era in later-era _ _ (omega (arith, is, l))
becomes-later (becoming.renews processor there) can = later-era _ _ (omega arith)

-- in a world that a run of a site reaches whose processes are each in two of its processors
can-be-blank : (site : Site) → IsPlaced site → (w next : World) (cause : Cause) (sendings : List Sending)
    → Change site w cause sendings next → AllKept site w → (number : ℕ) (pair : Pair)
    → slice_get w.processes number ≡ Some pair → (k : Which)
    → cause ≡ Reloading (copy_of k pair).processor → CanBeBlank pair k
can-be-blank site placed w next cause sendings change ok number pair there First is =
    let x = pair.first.processor in
    let survive = survives site placed w ok x (reload-needs w next cause sendings change x is) number pair there in
    let other = survive.0 (eq-eqb x x refl) in
    record {
      apart = apart-of pair.second.processor x other.1;
      era = ((ok.seen number pair there).1.acting other.0).other_era;
    }
can-be-blank site placed w next cause sendings change ok number pair there Second is =
    let x = pair.second.processor in
    let survive = survives site placed w ok x (reload-needs w next cause sendings change x is) number pair there in
    let other = survive.1 (eq-eqb x x refl) in
    record {
      apart = apart-of pair.first.processor x other.1;
      era = ((ok.seen number pair there).0.acting other.0).other_era;
    }

-- a world that goes on from one in which a process was so
record GoesOn (site : Site) (number : ℕ) (before : Pair) (w : World) : Type 0 where
  kept : AllKept site w
  later : (after : Pair) → slice_get w.processes number ≡ Some after → (k : Which)
      → IsLater (copy_of k before) (copy_of k after)

change-goes-on : (site : Site) → IsPlaced site → (number : ℕ) (before : Pair) (w next : World) (cause : Cause)
    (sendings : List Sending)
    → Change site w cause sendings next → GoesOn site number before w → GoesOn site number before next
change-goes-on site placed number before w next cause sendings change ok = record {
  kept = change-kept site placed w next cause sendings change ok.kept;
  later = λ after there k. (let was = change-was w next cause sendings change number after there in
      later-both (ok.later was.before was.there k)
      (becomes-later (was.copies k)
      (can-be-blank site placed w next cause sendings change ok.kept number was.before was.there k)));
}

pub copies-go-on : {site : Site} {events more : List Event} {w end : World} → IsPlaced site → IsRun site events w
    → Leads site w more end → (number : ℕ) (before after : Pair)
    → slice_get w.processes number ≡ Some before → slice_get end.processes number ≡ Some after
    → (k : Which) → IsLater (copy_of k before) (copy_of k after)
copies-go-on {site = site} {w = w} placed run leads number before after there then =
    (holds-on (GoesOn site number before) (change-goes-on site placed number before) leads (record {
      kept = run-kept placed run;
      later = λ now at k. subst (λ p. IsLater (copy_of k before) (copy_of k p)) (some-same (sym there ∙ at))
          (later-same (copy_of k before) (copy_of k before) refl refl);
    })).later after then
