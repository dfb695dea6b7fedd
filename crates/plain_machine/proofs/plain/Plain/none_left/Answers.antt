use Rattle.std.proofs.Common.{◌≡◌, ◌∙◌, ap, sym, IsTrue}
use Rattle.plain_semantics.specs.Machine.{IsStill}
use Rattle.plain_machine.specs.Stillness.{is_still}
use Rattle.plain_machine.proofs.AllStill.{all-still, still-told}
use Rattle.plain_machine.proofs.plain.Plain.none_left.Goals as goal

pub returns : goal.returns
returns c =
    let site = c.args.self.now.site in
    let state = c.args.self.now.state in
    let told : c.is_still.result ≡ is_still site state =
    c.is_still.ensures ∙ ap (λ m. is_still m.site m.state) c.self.view_is in (
      (λ (left : IsTrue c.is_still.result). all-still site state (sym told ∙ left)),
      (λ (still : IsStill site state). told ∙ still-told site state still),
    )
