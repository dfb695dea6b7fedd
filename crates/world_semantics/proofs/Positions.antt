-- No copy is further than the kept acts of its process, and neither is the base.
use Rattle.std.proofs.Common.{◌≡◌, ◌≤◌, ℕ, true, List, [], ◌∷◌, ◌++◌, Option, Some, None, slice_get, arith, Bool, false}
use Rattle.std.proofs.Common.{refl, ◌==◌}
use Rattle.checkpoint_image.specs.gd_words.specs.declared.message.Request.{Request}
use Rattle.checkpoint_image.specs.tal_tree.specs.declared.act.Act.{Act}
use Rattle.checkpoint_image.specs.tal_tree.specs.declared.act.Act.TheVariants.{Step, Enter, Print}
use Rattle.checkpoint_image.specs.tal_tree.specs.declared.site.Site.{Site}
use Rattle.disc_device.specs.Sectors.{Stored}
use Rattle.world_semantics.specs.Core.{Core, Deed}
use Rattle.world_semantics.specs.World.{Copy, Pair, Down, World, Which, First, Second, copy_of, with_copy, boot}
use Rattle.world_semantics.specs.Kept.{is_own, own_acts, Enters, holds_on, repeats, begins, keeps}
use Rattle.world_semantics.specs.Messages.{Message, Sending, Cause}
use Rattle.world_semantics.specs.Own.{Around, Causes, by_inner, by_take, by_ask, by_answer, by_device, by_write}
use Rattle.world_semantics.specs.Own.{by_reply}
use Rattle.world_semantics.specs.Passes.{Passes, by_send, by_pass_again, by_pass, by_apply, by_acknowledge}
use Rattle.world_semantics.specs.Passes.{kept_at_checkpoint, by_apply_behind, by_end, kept_at, point_at}
use Rattle.world_semantics.specs.Rules.{Change, by_own, by_checkpoint, by_request, by_early_request, by_enter, by_print}
use Rattle.world_semantics.specs.Rules.{by_stop, by_mark, stopped_pair, taker, pair_after_down, pair_at_down, new_core}
use Rattle.world_semantics.specs.Rules.{by_reload, reloaded_by, renewals_ended}
use Rattle.world_semantics.specs.Laws.{HasGrown}
use Rattle.world_semantics.proofs.Beginning.{all-begin}
use Rattle.world_semantics.proofs.Lists.{set-all, map-all, grown-one, grown-more}
use Rattle.world_semantics.proofs.Counting.{own-grown, own-step, own-take, own-one}
use Rattle.world_semantics.proofs.Growing.{enters-grows, passes-grow}
use Rattle.world_semantics.proofs.Roles.{reload-all}
use Rattle.world_semantics.specs.Shares.{acts_at}
use Rattle.plain_semantics.specs.process_semantics.specs.declared.point.Point.{Point}
use Rattle.plain_semantics.specs.process_semantics.specs.declared.point.Point.TheVariants as point

-- the positions of two copies and their base are within so many kept acts
pub record Bounds (count one two from : ℕ) : Type 0 where
  pub first : one ≤ count
  pub second : two ≤ count
  pub base : from ≤ count

abbrev pub BoundsOf : List Act → ℕ → Pair → Type 0
BoundsOf kept number pair = Bounds (own_acts number kept) pair.first.position pair.second.position pair.base

abbrev pub AllBounds : World → Type 0
AllBounds w = (number : ℕ) (pair : Pair) → slice_get w.processes number ≡ Some pair → BoundsOf w.kept number pair

bounds-more : {count more one two from : ℕ} → Bounds count one two from → count ≤ more → Bounds more one two from
bounds-more b l =
    record { first = omega (arith, b.first, l); second = omega (arith, b.second, l); base = omega (arith, b.base, l) }

-- the bounds after more was kept
all-more : (w : World) (kept : List Act) → HasGrown w.kept kept → AllBounds w → (number : ℕ) (pair : Pair)
    → slice_get w.processes number ≡ Some pair
    → BoundsOf kept number pair
all-more w kept g ok number pair there = bounds-more (ok number pair there) (own-grown number g)

pub bounds-begin : (site : Site) → AllBounds (boot site)
bounds-begin site = all-begin (BoundsOf []) site
    (λ number from spec. record { first = omega arith; second = omega arith; base = omega arith })

-- Acts

causes-own : {site : Site} {number node : ℕ} {core : Core} {before after : Around} {cause : Cause} {deed : Deed}
    {act : Act} {messages : List Message}
    → Causes site number node core before cause deed act messages after → is_own number act ≡ true
causes-own {number = n} by_inner = own-step n
causes-own {number = n} (by_take {found = found} e) = own-take n found.request.opener
causes-own {number = n} by_ask = own-step n
causes-own {number = n} (by_answer e) = own-step n
causes-own {number = n} (by_device e) = own-step n
causes-own {number = n} (by_write e) = own-step n
causes-own {number = n} (by_reply i o m e) = own-step n

enters-bound : {number : ℕ} {act : Act} {kept after : List Act} {copy entered : Copy}
    → Enters number act kept copy entered after → is_own number act ≡ true
    → copy.position ≤ own_acts number kept → entered.position ≤ own_acts number after
enters-bound (holds_on e) o l = l
enters-bound (repeats e b) o l = omega (arith, b)
enters-bound (begins e b t) o l = l
enters-bound {number = n} {act = act} {kept = kept} (keeps e b t) o l =
    let s = own-one n act kept o in rw s (omega (arith, l))

own-bounds : (k : Which) (pair : Pair) (core : Core) (waiting : List Request) (sectors : List Stored) {number : ℕ}
    {act : Act} {kept after : List Act}
    {entered : Copy} → Enters number act kept (copy_of k pair) entered after → is_own number act ≡ true
    → BoundsOf kept number pair
    → BoundsOf after number (with_copy k (record entered { core = core; waiting = waiting })
    (record pair { sectors = sectors }))
own-bounds First pair core waiting sectors {number = n} e o ok =
    let m = bounds-more ok (own-grown n (enters-grows e)) in
    record { first = enters-bound e o ok.first; second = m.second; base = m.base }
own-bounds Second pair core waiting sectors {number = n} e o ok =
    let m = bounds-more ok (own-grown n (enters-grows e)) in
    record { first = m.first; second = enters-bound e o ok.second; base = m.base }

-- Checkpoints

mark-more : (number : ℕ) (copy : Copy) (kept : List Act)
    → own_acts number (copy.held ++ kept) ≤ own_acts number (kept_at_checkpoint number copy kept)
mark-more number copy kept = own-grown number (grown-one (Step number) (copy.held ++ kept))

at-checkpoint : (number : ℕ) (copy : Copy) (kept : List Act)
    → own_acts number kept ≤ own_acts number (kept_at_checkpoint number copy kept)
at-checkpoint number copy kept = own-grown number (grown-more (Step number) copy.held kept)

step-more : (number : ℕ) (copy : Copy) (kept : List Act)
    → own_acts number (copy.held ++ kept) ≤ own_acts number (kept_at number copy kept)
step-more number copy kept = own-grown number (acts_at number (point_at copy), refl)

at-most : (number : ℕ) (copy : Copy) (kept : List Act)
    → own_acts number kept ≤ own_acts number (kept_at number copy kept)
at-most number copy kept = let first = own-grown number {before = kept} (copy.held, refl) in let last =
    step-more number copy kept in omega (arith, first, last)

step-most : (number : ℕ) (p : Point) → own_acts number (acts_at number p) ≤ 1
step-most number point.AtCheckpoint = rw (own-step number) (omega arith)
step-most number point.Inner = omega arith
step-most number point.Take = omega arith
step-most number point.Ask = omega arith
step-most number point.Await = omega arith
step-most number point.Answer = omega arith
step-most number point.Device = omega arith
step-most number point.Ended = omega arith

same-count : (n : ℕ) → n ≤ n
same-count n = omega arith

passes-bounds : {number : ℕ} {downs : List Down} {kept after : List Act} {pair next : Pair} {cause : Cause}
    {sendings : List Sending}
    → Passes number downs kept pair cause sendings next after → BoundsOf kept number pair → BoundsOf after number next
passes-bounds (by_send First r p s m) ok = record { first = ok.first; second = ok.second; base = ok.base }
passes-bounds (by_send Second r p s m) ok = record { first = ok.first; second = ok.second; base = ok.base }
passes-bounds (by_pass_again First r p m l) ok = record { first = omega (arith, l); second = ok.second; base = ok.base }
passes-bounds (by_pass_again Second r p m l) ok = record { first = ok.first; second = omega (arith, l); base = ok.base }
passes-bounds {number = n} {kept = kept} {pair = pair} (by_pass First r p m l) ok =
    let b = bounds-more ok (at-checkpoint n pair.first kept) in
    record { first = same-count _; second = b.second; base = b.base }
passes-bounds {number = n} {kept = kept} {pair = pair} (by_pass Second r p m l) ok =
    let b = bounds-more ok (at-checkpoint n pair.second kept) in
    record { first = b.first; second = same-count _; base = b.base }
passes-bounds (by_end First r s p m) ok = record { first = ok.first; second = ok.second; base = ok.base }
passes-bounds (by_end Second r s p m) ok = record { first = ok.first; second = ok.second; base = ok.base }
passes-bounds {number = n} {kept = kept} {pair = pair} (by_apply_behind First message applied r i e m a l) ok =
    let step = step-most n (point_at pair.second) in
    record { first = ok.first; second = ok.second; base = omega (arith, l, step) }
passes-bounds {number = n} {kept = kept} {pair = pair} (by_apply_behind Second message applied r i e m a l) ok =
    let step = step-most n (point_at pair.first) in
    record { first = ok.first; second = ok.second; base = omega (arith, l, step) }
passes-bounds {number = n} {kept = kept} {pair = pair} (by_apply First message applied r i e m a l) ok =
    let b = bounds-more ok (at-most n pair.second kept) in
    record { first = b.first; second = step-more n pair.second kept; base = same-count _ }
passes-bounds {number = n} {kept = kept} {pair = pair} (by_apply Second message applied r i e m a l) ok =
    let b = bounds-more ok (at-most n pair.first kept) in
    record { first = step-more n pair.first kept; second = b.second; base = same-count _ }
passes-bounds (by_acknowledge First taken r s i e n) ok =
    record { first = ok.first; second = ok.second; base = ok.base }
passes-bounds (by_acknowledge Second taken r s i e n) ok =
    record { first = ok.first; second = ok.second; base = ok.base }

waiting-bounds : (kept : List Act) (number : ℕ) (k : Which) (pair : Pair) (waiting : List Request)
    → BoundsOf kept number pair
    → BoundsOf kept number (with_copy k (record (copy_of k pair) { waiting = waiting }) pair)
waiting-bounds kept number First pair waiting ok = ok
waiting-bounds kept number Second pair waiting ok = ok

marking-bounds : (kept : List Act) (number : ℕ) (k : Option Which) (pair : Pair) → BoundsOf kept number pair
    → BoundsOf kept number (pair_after_down k pair)
marking-bounds kept number None pair ok = ok
marking-bounds kept number (Some First) pair ok = record { first = ok.base; second = ok.second; base = ok.base }
marking-bounds kept number (Some Second) pair ok = record { first = ok.first; second = ok.base; base = ok.base }

ended-bounds : (kept : List Act) (number node x : ℕ) (pair : Pair) → BoundsOf kept number pair
    → BoundsOf kept number (renewals_ended node x pair)
ended-bounds kept number node x pair ok = record { first = ok.first; second = ok.second; base = ok.base }

reloaded-bounds : (kept : List Act) (number : ℕ) (core : Core) (pair : Pair) (a b : Bool) → BoundsOf kept number pair
    → BoundsOf kept number (reloaded_by core pair a b)
reloaded-bounds kept number core pair false false ok = ok
reloaded-bounds kept number core pair true false ok = record { first = omega arith; second = ok.second; base = ok.base }
reloaded-bounds kept number core pair false true ok = record { first = ok.first; second = omega arith; base = ok.base }
reloaded-bounds kept number core pair true true ok =
    record { first = omega arith; second = omega arith; base = ok.base }

-- All changes

pub change-bounds : {site : Site} (w next : World) (cause : Cause) (sendings : List Sending)
    → Change site w cause sendings next → AllBounds w → AllBounds next
change-bounds w next cause sendings (by_own {kept = kept} number k pair there acts c a e f) ok =
    set-all (BoundsOf kept) w.processes number _ (all-more w kept (enters-grows e) ok)
    (own-bounds k pair _ _ _ e (causes-own c) (ok number pair there))
change-bounds w next cause sendings (by_checkpoint {kept = kept} number pair there p) ok =
    set-all (BoundsOf kept) w.processes number _ (all-more w kept (passes-grow p) ok)
    (passes-bounds p (ok number pair there))
change-bounds w next cause sendings (by_request request k pair i there r) ok =
    set-all (BoundsOf w.kept) w.processes request.process _ ok
    (waiting-bounds w.kept request.process k pair _ (ok request.process pair there))
change-bounds w next cause sendings (by_early_request request k pair i there r) ok =
    set-all (BoundsOf w.kept) w.processes request.process _ ok
    (waiting-bounds w.kept request.process k pair _ (ok request.process pair there))
change-bounds w next cause sendings (by_enter number terminal opener t e r o) ok =
    all-more w (Enter number ∷ w.kept) (grown-one (Enter number) w.kept) ok
change-bounds w next cause sendings (by_print number terminal reply t e i o n) ok =
    all-more w (Print number ∷ w.kept) (grown-one (Print number) w.kept) ok
change-bounds w next cause sendings (by_stop x r h) ok = map-all (BoundsOf w.kept) (stopped_pair x) w.processes ok
change-bounds w next cause sendings (by_mark node x s r n) ok =
    map-all (BoundsOf w.kept) (pair_at_down node x) w.processes
    (λ n p there. ended-bounds w.kept n node x (pair_after_down (taker node x p) p)
    (marking-bounds w.kept n (taker node x p) p (ok n p there)))
change-bounds {site = site} w next cause sendings (by_reload x s m t l) ok =
    reload-all (BoundsOf w.kept) site x w.processes
    (λ n p there. reloaded-bounds w.kept n (new_core site n (slice_get site.processes n) p.first.core) p
    (p.first.processor == x) (p.second.processor == x) (ok n p there))
