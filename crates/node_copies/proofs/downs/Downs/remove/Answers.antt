use Rattle.std.proofs.Common.{rules, ◌==◌, not, refl}
use Rattle.std.proofs.lemmas.Fn.{filter_same}
use Rattle.node_copies.proofs.downs.Downs.remove.Goals as goal

pub returns : goal.returns
returns c =
    let kept = filter_same _ (λ mark. not (mark.down == c.args.down)) _ (λ x b f k. search rules) _ _
    c.retain.ensures.filtered in
    rw (kept, ← c.self.view_is) refl
