-- The texts of the worked programs read as these.
use Rattle.std.proofs.Common.{◌≡◌, ℕ, List, [], ◌∷◌, true, None, refl}
use Rattle.std.specs.Prelude.{nat_le}
use Rattle.std.specs.Int.{int_wrap}
use Rattle.std.specs.List.{list_all}
use Rattle.std.proofs.lemmas.Bool.{leb-true}
use denote.Hole.Carrier.{hidden}
use Rattle.tal_tree.specs.declared.statement.What.TheBlock.{shape-the_row-Statement-0, hidden-the_row-Statement-0}
use Rattle.tal_tree.specs.declared.expression.Expr.TheBlock.{shape-the_row-Spot-0, hidden-the_row-Spot-0}
use Rattle.tal_tree.specs.declared.expression.Expr.TheBlock.{shape-the_row-Expr-1, hidden-the_row-Expr-1}
use Rattle.tal_tokens.specs.Lexer.{tokens_of}
use Rattle.tal_syntax.specs.Grammar as g
use Rattle.tal_syntax.specs.Nesting.{nest_text}
use Rattle.tal_syntax.specs.Expected.{AllAtMost}
use Rattle.tal_laws.specs.tal_rules.specs.Texts.{faults}
use Rattle.tal_laws.specs.tal_meaning.specs.Programs.{tree_of}
use Rattle.tal_laws.specs.tal_reader.specs.Reads.{Reads}
use Rattle.world_semantics.specs.Examples.{adder, bank}
use Rattle.accepted_sites.specs.Texts.{adder_text, bank_text}
use Rattle.accepted_sites.proofs.Listed.{both}
use Rattle.accepted_sites.proofs.AdderSyntax.{adder_syntax}
use Rattle.accepted_sites.proofs.BankSyntax.{bank_syntax}

-- levels that a test finds at most so high
pub all-low : (m : ℕ) (levels : List ℕ) → list_all (λ level. nat_le level m) levels ≡ true → AllAtMost m levels
all-low m [] low = tt
all-low m (level ∷ levels) low =
    let parts = both (nat_le level m) _ low in (leb-true level m parts.0, all-low m levels parts.1)

adder-cut : tokens_of adder_text ≡ record { list = g.of_text adder_syntax; fault = None }
unfolding int_wrap
adder-cut = refl

adder-free : faults adder_syntax ≡ []
unfolding int_wrap
adder-free = refl

adder-tree : adder ≡ tree_of adder_syntax
unfolding int_wrap shape-the_row-Statement-0 hidden-the_row-Statement-0 hidden shape-the_row-Spot-0
    hidden-the_row-Spot-0 shape-the_row-Expr-1 hidden-the_row-Expr-1
adder-tree = refl

adder-text : g.IsText adder_syntax
adder-text = ((tt, (tt, ((tt, (tt, (tt, (tt, (tt, tt))))), tt))), tt)

pub adder-read : Reads adder_text adder
adder-read = (adder_syntax, (adder-text, adder-cut, all-low 33 (nest_text adder_syntax) refl), adder-free, adder-tree)

bank-cut : tokens_of bank_text ≡ record { list = g.of_text bank_syntax; fault = None }
unfolding int_wrap
bank-cut = refl

bank-free : faults bank_syntax ≡ []
unfolding int_wrap
bank-free = refl

bank-tree : bank ≡ tree_of bank_syntax
unfolding int_wrap shape-the_row-Statement-0 hidden-the_row-Statement-0 hidden shape-the_row-Spot-0
    hidden-the_row-Spot-0 shape-the_row-Expr-1 hidden-the_row-Expr-1
bank-tree = refl

bank-text : g.IsText bank_syntax
bank-text = ((tt, (tt, (tt, ((tt, (tt, (tt, (tt, (tt, (tt, (tt, (tt, (tt, tt))))))))), tt)))), tt)

pub bank-read : Reads bank_text bank
bank-read = (bank_syntax, (bank-text, bank-cut, all-low 33 (nest_text bank_syntax) refl), bank-free, bank-tree)
