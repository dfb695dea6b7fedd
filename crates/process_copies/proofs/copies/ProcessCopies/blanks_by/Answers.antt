use Rattle.std.proofs.Common.{ℕ, ap, sym, subst, ◌∙◌}
use Rattle.gd_words.specs.Ranges.{HasNext}
use Rattle.world_semantics.specs.declared.which.Which.TheVariants.{First, Second}
use Rattle.process_copies.specs.Seen.{Placed}
use Rattle.process_copies.proofs.copies.ProcessCopies.blanks_by.Goals as goal

pub blank_after-requires-clause-era : goal.blank_after-requires-clause-era
blank_after-requires-clause-era c =
    subst (λ (era : ℕ). HasNext era)
    (sym (c.era-era.ensures ∙ ap (λ (placed : Placed). placed.pair.first.era) c.self.view_is))
    (c.requires.room First).era

pub blank_after-requires-in-true-true-clause-era : goal.blank_after-requires-in-true-true-clause-era
blank_after-requires-in-true-true-clause-era c =
    subst (λ (era : ℕ). HasNext era)
    (sym (c.era-era-in-true-true.ensures ∙ ap (λ (placed : Placed). placed.pair.second.era) c.self.view_is))
    (c.requires.room Second).era

pub blank_after-requires-in-true-false-clause-era : goal.blank_after-requires-in-true-false-clause-era
blank_after-requires-in-true-false-clause-era c =
    subst (λ (era : ℕ). HasNext era)
    (sym (c.era-era-in-true-false.ensures ∙ ap (λ (placed : Placed). placed.pair.second.era) c.self.view_is))
    (c.requires.room Second).era

pub blank_after-requires-in-false-true-clause-era : goal.blank_after-requires-in-false-true-clause-era
blank_after-requires-in-false-true-clause-era c =
    subst (λ (era : ℕ). HasNext era)
    (sym (c.era-era-in-false-true.ensures ∙ ap (λ (placed : Placed). placed.pair.first.era) c.self.view_is))
    (c.requires.room First).era
