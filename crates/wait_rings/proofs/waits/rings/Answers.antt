use Rattle.std.proofs.Common.{◌++◌, ℕ, List, ap, subst, sym, ◌∙◌}
use Rattle.wait_rings.specs.Rings.{rings_of}
use Rattle.wait_rings.specs.Waits.{TellsRings}
use Rattle.wait_rings.proofs.Told.{rings-told}
use Rattle.wait_rings.proofs.waits.rings.Goals as goal

pub returns-clause-tells : goal.returns-clause-tells
returns-clause-tells c =
    subst (TellsRings c.args.awaited.now) (sym (c.in_ok-put_rings.ensures
    ∙ ap (λ (all : List (List ℕ)). all ++ rings_of c.args.awaited.now) c.new-all.ensures))
    (rings-told c.args.awaited.now)
