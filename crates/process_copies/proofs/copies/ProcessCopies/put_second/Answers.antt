use Rattle.std.proofs.Common.{ℕ, ap, sym, subst}
use Rattle.gd_words.specs.Ranges.{HasNext}
use Rattle.world_semantics.specs.declared.which.Which.TheVariants.{First}
use Rattle.process_copies.specs.Seen.{Placed}
use Rattle.process_copies.proofs.copies.ProcessCopies.put_second.Goals as goal

pub renew-requires : goal.renew-requires
renew-requires c =
    subst (λ (era : ℕ). HasNext era) (sym (ap (λ (placed : Placed). placed.pair.first.era) c.self.view_is))
    (c.requires.room First).era
