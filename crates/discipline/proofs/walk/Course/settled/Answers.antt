use Rattle.std.proofs.Common.{◌<◌, ℕ, ◌∙◌, ◌∷◌, ap, sym, subst, drop, length, slice_get, Some, refl}
use Rattle.discipline.specs.declared.stack.Position.{Position}
use Rattle.std.specs.Prelude.{List, min}
use Rattle.process_semantics.specs.SeenEntries.{entry_of}
use Rattle.path_semantics.specs.Dues.{changed_by_return}
use Rattle.due_search.specs.reason_dues.specs.Amounts.{after_changed}
use Rattle.discipline.proofs.Walking.{stays, ended, left, returned, lost, shorter, top-none}
use Rattle.discipline.proofs.walk.Course.settled.Goals as goal

pub returns-then-top-ne0 : goal.returns-then-top-ne0
returns-then-top-ne0 c =
    stays c.args.self.program.now c.requires.ordered c.requires.limits c.args.self.reason c.args.walker.stack
    c.args.walker.due c.in-Some.top c.loop-top.walker.stack c.loop-top.walker.due c.loop-top.invariant
    c.in-Some.ensures c.if-top-ne0.true

pub returns-in_default-pop : goal.returns-in_default-pop
returns-in_default-pop c =
    left c.args.self.program.now c.requires.ordered c.requires.limits c.args.self.reason c.args.walker.stack
    c.args.walker.due c.in-Some.top c.loop-top.walker.stack c.pop-in-Some.new.self c.loop-top.walker.due
    c.loop-top.invariant c.in-Some.ensures c.if-top-ne0.false
    (c.in_default-pop.ensures.top ∙ ap (λ (ps : List Position). slice_get ps 0) c.pop.ensures.rest)
    (c.pop-in-Some.ensures.rest ∙ ap (drop 1) c.pop.ensures.rest)

pub returns-in_default-next : goal.returns-in_default-next
returns-in_default-next c =
    lost c.args.self.program.now c.requires.ordered c.requires.limits c.args.self.reason c.args.walker.stack
    c.args.walker.due c.in-Some.top c.in-Some-pop.caller c.loop-top.walker.stack c.pop-in-Some.new.self
    c.loop-top.walker.due c.loop-top.walker.due c.loop-top.invariant c.in-Some.ensures c.if-top-ne0.false
    (c.in-Some-pop.ensures.top ∙ ap (λ (ps : List Position). slice_get ps 0) c.pop.ensures.rest)
    c.in_default-next.ensures

pub loop-top-smaller : goal.loop-top-smaller
loop-top-smaller c =
    shorter c.loop-top.walker.stack c.pop-in-Some.new.self c.push.new.self c.in-Some.top c.in-Some-pop.caller
    c.in-Some.ensures
    (c.in-Some-pop.ensures.top ∙ ap (λ (ps : List Position). slice_get ps 0) c.pop.ensures.rest)
    (c.pop-in-Some.ensures.rest ∙ ap (drop 1) c.pop.ensures.rest) c.push.ensures.few

pub loop-top-preserved : goal.loop-top-preserved
loop-top-preserved c =
    returned c.args.self.program.now c.requires.ordered c.requires.limits c.args.self.reason c.args.walker.stack
    c.args.walker.due c.in-Some.top c.in-Some-pop.caller c.loop-top.walker.stack c.push.new.self
    c.loop-top.walker.due c.after_return.result (Some c.in-Some-next.found) c.in-Some-next.found c.loop-top.invariant
    c.in-Some.ensures c.if-top-ne0.false
    (c.in-Some-pop.ensures.top ∙ ap (λ (ps : List Position). slice_get ps 0) c.pop.ensures.rest) c.in-Some-next.ensures
    refl
    (c.after_return.ensures ∙ ap (λ (m : ℕ). min m
    (after_changed c.args.self.reason (changed_by_return (Some (entry_of c.in-Some-next.found.entry)))
    c.loop-top.walker.due)) c.requires.most)
    (λ room. c.push.ensures.entered (subst (λ (ps : List Position). length ps < 64)
    (sym (c.pop-in-Some.ensures.rest ∙ ap (drop 1) c.pop.ensures.rest)) room)
    ∙ ap (λ (ps : List Position). record {
      procedure = c.in-Some-pop.caller.procedure;
      number = c.in-Some-next.found.after;
    } ∷ ps) (c.pop-in-Some.ensures.rest ∙ ap (drop 1) c.pop.ensures.rest))

pub returns : goal.returns
returns c =
    ended c.args.self.program.now c.requires.ordered c.requires.limits c.args.self.reason c.args.walker.stack
    c.args.walker.due c.loop-top.walker.stack c.loop-top.walker.due c.loop-top.invariant
    (top-none c.loop-top.walker.stack c.in_default.ensures)
