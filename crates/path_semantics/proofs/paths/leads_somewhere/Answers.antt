use Rattle.std.proofs.Common.{◌≡◌, ◌==◌, ◌↔◌, Bool, not, length, ap, subst, sym, ◌∙◌}
use Rattle.std.specs.Prelude.{IsTrue}
use Rattle.path_semantics.specs.Path.{IsPath}
use Rattle.path_semantics.specs.Reached.{reached}
use Rattle.path_semantics.proofs.Reaching.{path-if}
use Rattle.path_semantics.proofs.paths.leads_somewhere.Goals as goal

pub returns : goal.returns
returns c =
    let empty : c.is_empty.result ≡ (length (reached c.args.program.now c.args.path.now) == 0) =
    c.is_empty.ensures ∙ ap (λ stands. length stands == 0) (c.as_slice-stands.ensures.value ∙ c.in_ok-stands.ensures) in
    subst (λ (b : Bool). IsTrue (not b) ↔ IsPath c.args.program.now c.args.path.now) (sym empty)
    (path-if c.args.program.now c.args.path.now)
