use Rattle.explain_why.proofs.Judgeable.{judgeable-all}
use Rattle.explain_why.proofs.laws.programs_of_a_deck_can_be_judged.Goals as goal

pub returns : goal.returns
returns c = λ bytes deck spells. judgeable-all deck.site.processes
    (λ number spec program there pair.
    c.a_deck_reads_its_programs.ensures bytes deck number spec program spells there pair)
