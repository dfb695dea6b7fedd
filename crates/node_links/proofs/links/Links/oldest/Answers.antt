use Rattle.std.proofs.Common.{sym, ap, ◌∙◌}
use Rattle.node_links.specs.Linking.{is_wanted}
use Rattle.node_links.proofs.Searched.{search-begins, search-takes, search-skips, search-finds, search-fails}
use Rattle.node_links.proofs.links.Links.oldest.Goals as goal

pub loop-number-init : goal.loop-number-init
loop-number-init c =
    let left = c.into_iter-number-iterator.ensures.into_iter_gives ∙ c.iter-number-items.ensures.rest in (
      tt,
      tt,
      search-begins (is_wanted c.args.wanted) c.args.self.now.table c.self.inside.links _
          (ap (λ held. held.table) c.self.view_is) left,
    )

pub loop-number-preserved-then-is : goal.loop-number-preserved-then-is
loop-number-preserved-then-is c = (
  tt,
  tt,
  search-takes (is_wanted c.args.wanted) c.args.self.now.table _ _ _ c.in-Some.number c.in-Some.link.now c.older.result
      c.in-Some.ensures.steps (sym c.if-is.ensures) c.older.ensures.which c.older.ensures.no_later
      c.older.ensures.before c.loop-number.invariant.2,
)

pub loop-number-preserved : goal.loop-number-preserved
loop-number-preserved c = (
  tt,
  tt,
  search-skips (is_wanted c.args.wanted) c.args.self.now.table _ _ _ c.in-Some.number c.in-Some.link.now
      c.in-Some.ensures.steps (sym c.if-is.ensures) c.loop-number.invariant.2,
)

pub returns-in_err-oldest-clause-none : goal.returns-in_err-oldest-clause-none
returns-in_err-oldest-clause-none c =
    rw c.from_residual.ensures (search-fails (is_wanted c.args.wanted) c.args.self.now.table _
    c.in-None.ensures.steps.0 (rw c.in_err-oldest.was at c.loop-number.invariant.2))

pub returns-clause-oldest : goal.returns-clause-oldest
returns-clause-oldest c =
    let timed = rw (ap (λ held. held.table) c.self.view_is) at c.self.invariant in
    search-finds (is_wanted c.args.wanted) c.args.self.now.table c.self.inside.opened c.in_ok-oldest.field-0 _ timed
    c.in-None.ensures.steps.0 (rw c.in_ok-oldest.was at c.loop-number.invariant.2)
