use Rattle.std.proofs.Common.{rules, not, refl}
use Rattle.std.proofs.lemmas.Fn.{filter_same}
use Rattle.message_wires.specs.letters.specs.Posts.{is_from_or_to}
use Rattle.posted_letters.proofs.Rising.{filtered}
use Rattle.posted_letters.proofs.posted.PostedLetters.reload.Goals as goal

pub returns : goal.returns
returns c =
    let kept = filter_same _ (λ sent. not (is_from_or_to c.args.processor sent.letter)) _ (λ x b f k. search rules)
    _ _ c.retain.ensures.filtered in
    rw (c.note_load.ensures, kept, ← c.self.view_is) refl

pub invariant_of-self : goal.invariant_of-self
invariant_of-self c =
    let kept = filter_same _ (λ sent. not (is_from_or_to c.args.processor sent.letter)) _ (λ x b f k. search rules)
    _ _ c.retain.ensures.filtered in
    rw (kept) (filtered (λ sent. not (is_from_or_to c.args.processor sent.letter)) 0 c.self.inside.count
    c.self.inside.owed.items c.self.invariant)
