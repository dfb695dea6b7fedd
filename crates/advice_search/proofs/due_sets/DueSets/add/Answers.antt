use Rattle.std.proofs.Common.{◌≡◌, ◌≤◌, ◌+◌, length, take, get_or, slice_get, Some, refl, ap, sym, subst, ◌∙◌, arith}
use Rattle.std.proofs.lemmas.Option.{slice_get_read}
use Rattle.advice.specs.due_search.specs.declared.queue.Visit.{Visit}
use Rattle.advice_search.specs.Gathered.{due_at, AreAdded}
use Rattle.advice_search.specs.declared.due_sets.DueSets.{DueSets}
use Rattle.advice_search.proofs.Any.{got-same}
use Rattle.advice_search.proofs.Sets.{added-none, added-one, due-low, length-set}
use Rattle.advice_search.proofs.due_sets.DueSets.add.Goals as goal
use Rattle.advice_search.proofs.due_sets.DueSets.add.Goals.{in-Some, in_default}

none : Visit
none = record { node = 0; due = 0; from = 0; steps = 0 }

pub index-requires : goal.index-requires
unfolding none
index-requires c =
    let visits = c.args.visits.now in
    let k = c.loop-visit.visit-index in
    let low : c.in-Some.number ≤ 2000 =
    due-low c.args.flow.now visits k (get_or visits k none) c.loop-visit-test.true
    (got-same visits k none c.loop-visit-test.true) c.requires.readable c.in-Some.number
    (sym c.due_at.ensures ∙ c.in-Some.is) in
    omega (arith, c.loop-visit.invariant.0)

pub index_mut-requires : goal.index_mut-requires
unfolding none
index_mut-requires c =
    let visits = c.args.visits.now in
    let k = c.loop-visit.visit-index in
    let low : c.in-Some.number ≤ 2000 =
    due-low c.args.flow.now visits k (get_or visits k none) c.loop-visit-test.true
    (got-same visits k none c.loop-visit-test.true) c.requires.readable c.in-Some.number
    (sym c.due_at.ensures ∙ c.in-Some.is) in
    omega (arith, c.loop-visit.invariant.0)

pub loop-visit-preserved : goal.loop-visit-preserved
unfolding none
loop-visit-preserved c =
    let nodes = c.args.flow.now in
    let visits = c.args.visits.now in
    let k = c.loop-visit.visit-index in
    let visit = get_or visits k none in
    let member = c.args.member in
    let before = c.args.self.now.sets.items in
    let mid = c.loop-visit.self.sets.items in
    let inside = c.loop-visit-test.true in
    let read = got-same visits k none inside in
    elim c.match-due_at.branch [
      | in-Some w ↦
          let at = w.from-place.result in
          let is : due_at nodes visit ≡ Some at =
          sym c.due_at.ensures ∙ w.in-Some.is ∙ ap Some (sym w.from-place.ensures) in
          let low : at ≤ 2000 = due-low nodes visits k visit inside read c.requires.readable at is in
          let count : length mid ≡ 2001 = c.loop-visit.invariant.0 in
          let got : slice_get mid at ≡ Some w.index.result.now =
          slice_get_read mid (length mid) at w.index.result.now refl (omega arith) w.index.ensures in
          subst (λ (self : DueSets). (length self.sets.items ≡ 2001)
          × AreAdded nodes (take (k + 1) visits) member before self.sets.items) (sym w.self-is) (
            length-set mid at w.with.result ∙ count,
            added-one nodes visits k visit inside read member at before mid w.index.result.now w.with.result is got
                w.with.ensures c.loop-visit.invariant.1,
          )
      | in_default w ↦
          subst (λ (self : DueSets). (length self.sets.items ≡ 2001)
          × AreAdded nodes (take (k + 1) visits) member before self.sets.items) (sym w.self-is) (
            c.loop-visit.invariant.0,
            added-none nodes visits k visit inside read member before mid (sym c.due_at.ensures ∙ w.in_default.is)
                c.loop-visit.invariant.1,
          )
    ]
