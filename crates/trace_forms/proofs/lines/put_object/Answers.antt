use Rattle.std.proofs.Common.{◌≡◌, [], ◌∷◌, ◌++◌, List, ℕ, OnOk, subst, sym}
use Rattle.trace_forms.proofs.Objects.{object_is}
use Rattle.trace_forms.proofs.lines.put_object.Goals as goal

pub returns : goal.returns
returns c =
    subst (λ (object : List ℕ). OnOk c.put_pieces.result
    (c.put_pieces.new.text ≡ c.args.text.now ++ (object ++ 10 ∷ [])))
    (sym (object_is c.args.number c.args.event.now c.args.findings.now)) c.put_pieces.ensures
