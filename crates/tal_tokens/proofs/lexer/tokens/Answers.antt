use Rattle.std.proofs.Common.{◌≡◌, ◌≤◌, ◌++◌, ◌∷◌, [], length, sym, ◌∙◌, arith}
use Rattle.tal_tokens.specs.declared.begun.Begun.TheVariants.{Gap, Whole}
use Rattle.tal_tokens.specs.Lexeme.{begun_of}
use Rattle.tal_tokens.proofs.Lexed.{after_gap, after_token}
use Rattle.tal_tokens.proofs.lexer.tokens.Goals as goal
use Rattle.tal_tokens.proofs.lexer.tokens.Goals.{in-Gap, in-Whole+in_ok-push-in-Whole}

pub loop-rest-preserved : goal.loop-rest-preserved
loop-rest-preserved c = record {
  told = elim c.match-of.branch [
    | in-Gap w ↦
        let here : begun_of c.loop-rest.here c.loop-rest.rest.now ≡ Gap w.in-Gap.len =
        sym c.of.ensures.value ∙ w.in-Gap.is in
        let within : (1 ≤ w.in-Gap.len) × (w.in-Gap.len ≤ length c.loop-rest.rest.now) =
        rw w.in-Gap.is at c.of.ensures.within in
        rw (w.list-is, c.past-here.ensures.place, c.split_at.ensures.front, c.split_at.ensures.back, w.taken-is)
        (sym (after_gap c.loop-rest.list c.loop-rest.here c.loop-rest.rest.now w.in-Gap.len within.0 within.1 here)
        ∙ c.loop-rest.invariant.told)
    | in-Whole+in_ok-push-in-Whole w ↦
        let here : begun_of c.loop-rest.here c.loop-rest.rest.now ≡ Whole w.in-Whole.token w.in-Whole.len =
        sym c.of.ensures.value ∙ w.in-Whole.is in
        let within : (1 ≤ w.in-Whole.len) × (w.in-Whole.len ≤ length c.loop-rest.rest.now) =
        rw w.in-Whole.is at c.of.ensures.within in
        let list : c.match-of.list ≡ c.loop-rest.list ++ w.in-Whole.token ∷ [] =
        w.list-is ∙ w.in_ok-push-in-Whole.ensures.ok in
        rw (list, c.past-here.ensures.place, c.split_at.ensures.front, c.split_at.ensures.back, w.taken-is)
        (sym (after_token c.loop-rest.list c.loop-rest.here c.loop-rest.rest.now w.in-Whole.token w.in-Whole.len
        within.0 within.1 here) ∙ c.loop-rest.invariant.told)
  ];
  length = omega arith;
  near = c.past-here.ensures.near;
}
