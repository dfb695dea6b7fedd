-- What is computed for a stop, for a mark and for a reload is what is permitted there, and nothing else is.
use Rattle.std.proofs.Common.{◌≡◌, ◌<◌, ◌&&◌, ℕ, Bool, true, false, not, nat_lt, List, Option, Some, None, slice_get}
use Rattle.std.proofs.Common.{refl, ap, subst, ◌∙◌}
use Rattle.std.specs.Cmp.Derive.{both_true}
use Rattle.std.proofs.lemmas.Bool.{lt-ltb, ltb-true}
use Rattle.tal_tree.specs.declared.site.Site.{Site}
use Rattle.world_semantics.specs.World.{World, is_running, is_marked_by_all, is_whole}
use Rattle.world_semantics.specs.Messages.{Sending, Cause, Stopping, MarkingDown, Reloading}
use Rattle.world_semantics.specs.Rules.{Change, by_own, by_checkpoint, by_request, by_early_request, by_enter, by_print}
use Rattle.world_semantics.specs.Rules.{by_stop, by_mark, by_reload, most_reloads}
use Rattle.world_semantics.specs.Running.{Done}
use Rattle.world_semantics.proofs.Lists.{some-same}
use Rattle.world_semantics.proofs.Moves.{marked-by-all, by-all-marked}
use Rattle.world_semantics.proofs.Roles.{both-true}
use Rattle.computed_changes.specs.Stopped.{stop_if, stop_where, stop_done, may_mark, marked_where, mark_where}
use Rattle.computed_changes.specs.Stopped.{down_done}
use Rattle.computed_changes.specs.Stopped.{reload_if, reload_counted, reload_where, reload_done}
use Rattle.computed_changes.proofs.Causes.{IsOfCopies, own-causes, passes-causes}

-- Stops

if-stops : (site : Site) (processor : ℕ) (w : World) → slice_get w.stopped processor ≡ Some false
    → (whole : Bool) → is_whole w ≡ whole → (done : Done)
    → stop_if processor w whole ≡ Some done → Change site w (Stopping processor) done.sendings done.world
if-stops site processor w s true h done e =
    subst (λ (d : Done). Change site w (Stopping processor) d.sendings d.world) (some-same e) (by_stop processor s h)
if-stops site processor w s false h done e = absurd (cc)

where-stops : (site : Site) (processor : ℕ) (w : World) (stopped : Option Bool)
    → slice_get w.stopped processor ≡ stopped → (done : Done)
    → stop_where processor w stopped ≡ Some done → Change site w (Stopping processor) done.sendings done.world
where-stops site processor w (Some false) s done e = if-stops site processor w s (is_whole w) refl done e
where-stops site processor w (Some true) s done e = absurd (cc)
where-stops site processor w None s done e = absurd (cc)

pub stop-may : (site : Site) (processor : ℕ) (w : World) (done : Done) → stop_done processor w ≡ Some done
    → Change site w (Stopping processor) done.sendings done.world
stop-may site processor w done e = where-stops site processor w (slice_get w.stopped processor) refl done e

same-processor : {one other : ℕ} → Stopping one ≡ Stopping other → one ≡ other
same-processor e = cc

change-stops : {site : Site} (processor : ℕ) (w next : World) (cause : Cause) (sendings : List Sending)
    → cause ≡ Stopping processor
    → Change site w cause sendings next → stop_done processor w ≡ Some (record { world = next; sendings = sendings })
change-stops processor w next cause sendings r (by_own one k pair there role c a e fr) =
    absurd (subst IsOfCopies r (own-causes c))
change-stops processor w next cause sendings r (by_checkpoint one pair there p) =
    absurd (subst IsOfCopies r (passes-causes p))
change-stops processor w next cause sendings r (by_request request k pair i there role) = absurd (cc)
change-stops processor w next cause sendings r (by_early_request request k pair i there role) = absurd (cc)
change-stops processor w next cause sendings r (by_enter one terminal opener t f n o) = absurd (cc)
change-stops processor w next cause sendings r (by_print one terminal reply t e i o n) = absurd (cc)
change-stops processor w next cause sendings r (by_stop x s h) =
    subst (λ m. stop_done m w ≡ Some (record { world = next; sendings = sendings })) (same-processor r)
    (ap (stop_where x w) s ∙ ap (stop_if x w) h)
change-stops processor w next cause sendings r (by_mark node x s run n) = absurd (cc)
change-stops processor w next cause sendings r (by_reload x s m t l) = absurd (cc)

pub stop-only : {site : Site} (processor : ℕ) (w next : World) (sendings : List Sending)
    → Change site w (Stopping processor) sendings next
    → stop_done processor w ≡ Some (record { world = next; sendings = sendings })
stop-only processor w next sendings c = change-stops processor w next _ sendings refl c

-- Marks

not-true : (b : Bool) → not b ≡ true → b ≡ false
not-true true e = absurd (cc)
not-true false e = refl

marked-may : (site : Site) (node processor : ℕ) (w : World) → slice_get w.stopped processor ≡ Some true → (may : Bool)
    → may_mark node processor w ≡ may
    → (done : Done) → marked_where node processor w may ≡ Some done
    → Change site w (MarkingDown node processor) done.sendings done.world
marked-may site node processor w s true m done e =
    let b = both-true (is_running w.stopped node) _ m in
    subst (λ (d : Done). Change site w (MarkingDown node processor) d.sendings d.world) (some-same e)
    (by_mark node processor s b.0 (not-true _ b.1))
marked-may site node processor w s false m done e = absurd (cc)

where-downs : (site : Site) (node processor : ℕ) (w : World) (stopped : Option Bool)
    → slice_get w.stopped processor ≡ stopped → (done : Done)
    → mark_where node processor w stopped ≡ Some done
    → Change site w (MarkingDown node processor) done.sendings done.world
where-downs site node processor w (Some true) s done e = marked-may site node processor w s _ refl done e
where-downs site node processor w (Some false) s done e = absurd (cc)
where-downs site node processor w None s done e = absurd (cc)

pub mark-may : (site : Site) (node processor : ℕ) (w : World) (done : Done) → down_done node processor w ≡ Some done
    → Change site w (MarkingDown node processor) done.sendings done.world
mark-may site node processor w done e = where-downs site node processor w (slice_get w.stopped processor) refl done e

same-mark : {node one processor other : ℕ} → MarkingDown node processor ≡ MarkingDown one other
    → (node ≡ one) × (processor ≡ other)
same-mark e = (cc, cc)

change-downs : {site : Site} (node processor : ℕ) (w next : World) (cause : Cause) (sendings : List Sending)
    → cause ≡ MarkingDown node processor
    → Change site w cause sendings next → down_done node processor w
    ≡ Some (record { world = next; sendings = sendings })
change-downs node processor w next cause sendings r (by_own one k pair there role c a e fr) =
    absurd (subst IsOfCopies r (own-causes c))
change-downs node processor w next cause sendings r (by_checkpoint one pair there p) =
    absurd (subst IsOfCopies r (passes-causes p))
change-downs node processor w next cause sendings r (by_request request k pair i there role) = absurd (cc)
change-downs node processor w next cause sendings r (by_early_request request k pair i there role) = absurd (cc)
change-downs node processor w next cause sendings r (by_enter one terminal opener t f n o) = absurd (cc)
change-downs node processor w next cause sendings r (by_print one terminal reply t e i o n) = absurd (cc)
change-downs node processor w next cause sendings r (by_stop x s h) = absurd (cc)
change-downs node processor w next cause sendings r (by_mark m x s run new) =
    let same = same-mark r in
    subst (λ n. down_done n processor w ≡ Some (record { world = next; sendings = sendings })) same.0
    (subst (λ y. down_done m y w ≡ Some (record { world = next; sendings = sendings })) same.1 (rw (s, run, new) refl))
change-downs node processor w next cause sendings r (by_reload x s m t l) = absurd (cc)

pub mark-only : {site : Site} (node processor : ℕ) (w next : World) (sendings : List Sending)
    → Change site w (MarkingDown node processor) sendings next
    → down_done node processor w ≡ Some (record { world = next; sendings = sendings })
mark-only node processor w next sendings c = change-downs node processor w next _ sendings refl c

-- Reloads

less-times : (times : ℕ) → nat_lt times most_reloads ≡ true → times < most_reloads
less-times times e = ltb-true times most_reloads e

if-reloads : (site : Site) (processor times : ℕ) (w : World) → slice_get w.stopped processor ≡ Some true
    → slice_get w.reloads processor ≡ Some times → (may : Bool)
    → (is_marked_by_all w processor && nat_lt times most_reloads) ≡ may → (done : Done)
    → reload_if site processor times w may ≡ Some done
    → Change site w (Reloading processor) done.sendings done.world
if-reloads site processor times w s t true m done e =
    let b = both-true (is_marked_by_all w processor) _ m in
    subst (λ (d : Done). Change site w (Reloading processor) d.sendings d.world) (some-same e)
    (by_reload processor s (marked-by-all w processor b.0) t (less-times times b.1))
if-reloads site processor times w s t false m done e = absurd (cc)

counted-reloads : (site : Site) (processor : ℕ) (w : World) → slice_get w.stopped processor ≡ Some true
    → (times : Option ℕ) → slice_get w.reloads processor ≡ times → (done : Done)
    → reload_counted site processor w times ≡ Some done
    → Change site w (Reloading processor) done.sendings done.world
counted-reloads site processor w s None t done e = absurd (cc)
counted-reloads site processor w s (Some times) t done e = if-reloads site processor times w s t _ refl done e

where-reloads : (site : Site) (processor : ℕ) (w : World) (stopped : Option Bool)
    → slice_get w.stopped processor ≡ stopped → (done : Done)
    → reload_where site processor w stopped ≡ Some done
    → Change site w (Reloading processor) done.sendings done.world
where-reloads site processor w (Some true) s done e = counted-reloads site processor w s _ refl done e
where-reloads site processor w (Some false) s done e = absurd (cc)
where-reloads site processor w None s done e = absurd (cc)

pub reload-may : (site : Site) (processor : ℕ) (w : World) (done : Done) → reload_done site processor w ≡ Some done
    → Change site w (Reloading processor) done.sendings done.world
reload-may site processor w done e = where-reloads site processor w (slice_get w.stopped processor) refl done e

-- what is loaded again had stopped
where-stopped : (site : Site) (processor : ℕ) (w : World) (stopped : Option Bool) (done : Done)
    → reload_where site processor w stopped ≡ Some done → stopped ≡ Some true
where-stopped site processor w (Some true) done e = refl
where-stopped site processor w (Some false) done e = absurd (cc)
where-stopped site processor w None done e = absurd (cc)

pub reload-stopped : (site : Site) (processor : ℕ) (w : World) (done : Done) → reload_done site processor w ≡ Some done
    → slice_get w.stopped processor ≡ Some true
reload-stopped site processor w done e = where-stopped site processor w (slice_get w.stopped processor) done e

same-reload : {one other : ℕ} → Reloading one ≡ Reloading other → one ≡ other
same-reload e = cc

change-reloads : {site : Site} (processor : ℕ) (w next : World) (cause : Cause) (sendings : List Sending)
    → cause ≡ Reloading processor
    → Change site w cause sendings next
    → reload_done site processor w ≡ Some (record { world = next; sendings = sendings })
change-reloads processor w next cause sendings r (by_own one k pair there role c a e fr) =
    absurd (subst IsOfCopies r (own-causes c))
change-reloads processor w next cause sendings r (by_checkpoint one pair there p) =
    absurd (subst IsOfCopies r (passes-causes p))
change-reloads processor w next cause sendings r (by_request request k pair i there role) = absurd (cc)
change-reloads processor w next cause sendings r (by_early_request request k pair i there role) = absurd (cc)
change-reloads processor w next cause sendings r (by_enter one terminal opener t f n o) = absurd (cc)
change-reloads processor w next cause sendings r (by_print one terminal reply t e i o n) = absurd (cc)
change-reloads processor w next cause sendings r (by_stop x s h) = absurd (cc)
change-reloads processor w next cause sendings r (by_mark m x s run new) = absurd (cc)
change-reloads {site = site} processor w next cause sendings r (by_reload {times = times} x s m t l) =
    let all = by-all-marked w x m in
    let less : nat_lt times most_reloads ≡ true = lt-ltb times most_reloads l in
    subst (λ y. reload_done site y w ≡ Some (record { world = next; sendings = sendings })) (same-reload r)
    (ap (reload_where site x w) s ∙ ap (reload_counted site x w) t
    ∙ ap (reload_if site x times w) (both_true all less))

pub reload-only : {site : Site} (processor : ℕ) (w next : World) (sendings : List Sending)
    → Change site w (Reloading processor) sendings next
    → reload_done site processor w ≡ Some (record { world = next; sendings = sendings })
reload-only processor w next sendings c = change-reloads processor w next _ sendings refl c
