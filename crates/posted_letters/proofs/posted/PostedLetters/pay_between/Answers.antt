use Rattle.std.proofs.Common.{rules, not, refl}
use Rattle.std.proofs.lemmas.Fn.{filter_same}
use Rattle.message_wires.specs.letters.specs.Routes.{is_between}
use Rattle.posted_letters.proofs.Rising.{filtered}
use Rattle.posted_letters.proofs.posted.PostedLetters.pay_between.Goals as goal

pub returns : goal.returns
returns c =
    let kept = filter_same _ (λ sent. not (is_between c.args.one c.args.other sent.letter)) _ (λ x b f k. search rules)
    _ _ c.retain.ensures.filtered in
    rw (kept, ← c.self.view_is) refl

pub invariant_of-self : goal.invariant_of-self
invariant_of-self c =
    let kept = filter_same _ (λ sent. not (is_between c.args.one c.args.other sent.letter)) _ (λ x b f k. search rules)
    _ _ c.retain.ensures.filtered in
    rw (kept) (filtered (λ sent. not (is_between c.args.one c.args.other sent.letter)) 0 c.self.inside.count
    c.self.inside.owed.items c.self.invariant)
