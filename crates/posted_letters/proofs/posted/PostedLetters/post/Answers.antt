use Rattle.std.proofs.Common.{rules, ◌≡◌, ◌+◌, ◌++◌, ◌∷◌, [], ap, subst}
use Rattle.posted_letters.specs.Rising.{RisesWithin}
use Rattle.posted_letters.proofs.Rising.{one_more}
use Rattle.posted_letters.proofs.posted.PostedLetters.post.Goals as goal

pub invariant_of-self-2 : goal.invariant_of-self-2
invariant_of-self-2 c =
    let rising = one_more 0 c.self.inside.count c.self.inside.owed.items c.new.result
    (ap (λ sent. sent.number) c.new.ensures) c.self.invariant in
    let all : c.self.inside.owed.items ++ c.new.result ∷ [] ≡ c.push.new.self.items = search rules in
    subst (λ xs. RisesWithin 0 (c.self.inside.count + 1) xs) all rising
