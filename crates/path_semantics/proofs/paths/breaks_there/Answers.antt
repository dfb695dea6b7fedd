use Rattle.std.proofs.Common.{◌≡◌, ◌↔◌, ℕ, Bool, List, [], ◌∷◌, ◌++◌, ap, subst, sym, ◌∙◌}
use Rattle.std.specs.Prelude.{IsTrue}
use Rattle.std.specs.List.{list_any}
use Rattle.path_semantics.specs.Break.{Breaks}
use Rattle.path_semantics.specs.Reached.{reached, breaks_next}
use Rattle.path_semantics.proofs.Reaching.{breaks-if}
use Rattle.path_semantics.proofs.paths.breaks_there.Goals as goal

pub returns : goal.returns
returns c =
    let any : c.any_breaks.result ≡ list_any (breaks_next c.args.program.now c.args.reason c.in-Some.last.now)
    (reached c.args.program.now c.in-Some.front.now) =
    c.any_breaks.ensures ∙ ap (list_any (breaks_next c.args.program.now c.args.reason c.in-Some.last.now))
    (c.as_slice.ensures.value ∙ c.in_ok-stands.ensures) in
    subst (λ (path : List ℕ). IsTrue c.any_breaks.result ↔ Breaks c.args.program.now path c.args.reason)
    (sym c.in-Some.ensures.cases.0)
    (subst (λ (b : Bool). IsTrue b ↔ Breaks c.args.program.now (c.in-Some.front.now ++ c.in-Some.last.now ∷ [])
    c.args.reason) (sym any)
    (breaks-if c.args.program.now c.in-Some.front.now c.in-Some.last.now c.args.reason))
