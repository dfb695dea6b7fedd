use Rattle.std.proofs.Common.{sym, ap, ◌∙◌}
use Rattle.std.specs.Ordering.{is_eq}
use Rattle.gd_words.specs.IdentOrder.{ident_ties}
use Rattle.gd_words.proofs.ident.IdentPartialEq.eq.Goals as goal

pub returns : goal.returns
returns c = c.is_eq.ensures ∙ ap is_eq c.cmp.ensures ∙ sym (ident_ties c.args.self.now c.args.other.now)
