use Rattle.std.proofs.Common.{◌≡◌, true, ◌∙◌, ap, sym}
use Rattle.std.proofs.lemmas.Bool.{OnTrue_from}
use Rattle.alive_regroup.specs.Watching.{Watching, misses_none}
use Rattle.alive_regroup.proofs.Heard.{calm-missed}
use Rattle.alive_regroup.proofs.listener.Listener.is_calm.Goals as goal

pub returns : goal.returns
returns c =
    OnTrue_from c.self.inside.calm (misses_none c.args.self.now ≡ true)
    (λ calm. ap (λ (w : Watching). misses_none w) (sym c.self.view_is)
    ∙ calm-missed c.self.inside.watch (c.self.invariant.1 calm) c.self.inside.heard)
