use Rattle.std.proofs.Common.{◌∙◌, ℕ, true, ap, sym, length, set, arith}
use Rattle.std.proofs.lemmas.List.{length-map}
use Rattle.alive_regroup.specs.Listening.{watch_after}
use Rattle.alive_regroup.specs.Watching.{Watching, changed_at, is_up, neighbour_after_alive}
use Rattle.alive_regroup.proofs.Heard.{heard-one, heard-past}
use Rattle.alive_regroup.proofs.listener.Listener.hear.Goals as goal

pub returns-then-place-lt16 : goal.returns-then-place-lt16
returns-then-place-lt16 c =
    ap (λ (k : ℕ). watch_after (set c.self.inside.heard k true) c.self.inside.watch) c.from-place.ensures
    ∙ heard-one c.self.inside.heard c.self.inside.watch c.args.from
    (omega (arith, c.self.told, c.if-place-lt16.true, c.from-place.ensures))
    ∙ ap (λ (w : Watching). changed_at c.args.from neighbour_after_alive w) c.self.view_is

pub returns-else-place-lt16 : goal.returns-else-place-lt16
returns-else-place-lt16 c =
    sym c.self.view_is
    ∙ heard-past c.self.inside.heard c.self.inside.watch c.args.from
    (omega (
      arith,
      sym (ap length c.self.invariant.0 ∙ length-map c.self.inside.watch.neighbours is_up),
      c.self.told,
      c.if-place-lt16.false,
      c.from-place.ensures,
    ))
    ∙ ap (λ (w : Watching). changed_at c.args.from neighbour_after_alive w) c.self.view_is
