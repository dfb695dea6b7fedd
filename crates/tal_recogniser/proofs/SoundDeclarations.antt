-- Each row of the table of declarations makes what its symbol stands for.
use Rattle.std.proofs.Common.{◌∷◌, ◌++◌, refl}
use Rattle.tal_tokens.specs.declared.token.At.{At}
use Rattle.tal_tokens.specs.declared.token.Token.{Token}
use Rattle.tal_tokens.specs.declared.token.Token.TheVariants as tok
use Rattle.tal_syntax.specs.Grammar as g
use Rattle.tal_recogniser.specs.declared.symbol.Symbol.TheVariants as sym
use Rattle.tal_recogniser.specs.ExpressionTable.{Stack}
use Rattle.tal_recogniser.specs.DeclarationTable.{procedure_on, lines_step, after_int_step, procedures_step}
use Rattle.tal_recogniser.specs.DeclarationTable.{bounds_step, items_step, atom_step, constant_step, literals_step}
use Rattle.tal_recogniser.specs.DeclarationTable.{parameters_step, names_step, main_step, locals_step}
use Rattle.tal_recogniser.proofs.Things.{Things, of_things, Made, Steps, NearProcedures, listing, proceeding}

-- the procedures of which the first is what stands after its PROC
abbrev procedures_from : (ss : Stack) → At → Things (procedure_on ++ ss) → g.Gives → NearProcedures
procedures_from ss proc x gives = (
  g.more_procedures
      (g.procedure (g.heading gives proc x.0.0 x.0.1 x.1.0 x.1.1.0 x.1.1.1.0) x.1.1.1.1.0 x.1.1.1.1.1.0 x.1.1.1.1.1.1.0
      x.1.1.1.1.1.1.1.0.0 x.1.1.1.1.1.1.1.1.0.0 x.1.1.1.1.1.1.1.1.1.0 x.1.1.1.1.1.1.1.1.1.1.0)
      x.1.1.1.1.1.1.1.1.1.1.1.0.0,
  ((x.1.1.1.1.1.1.1.0.1, x.1.1.1.1.1.1.1.1.0.1), x.1.1.1.1.1.1.1.1.1.1.1.0.1),
)

abbrev after_procedures : (ss : Stack) → Things (procedure_on ++ ss) → Things ss
after_procedures ss x = x.1.1.1.1.1.1.1.1.1.1.1.1

pub sound-procedures : (k : Token) (ss : Stack) → Steps sym.Procedures k ss (procedures_step k)
sound-procedures (tok.Int at) ss =
    (tt, λ x. ((procedures_from ss x.0 x.1 (g.gives_int at), after_procedures ss x.1), refl))
sound-procedures (tok.Proc at) ss = (tt, λ x. ((procedures_from ss at x g.gives_nothing, after_procedures ss x), refl))
sound-procedures _ ss = tt

pub sound-after-int : (k : Token) (ss : Stack) → Steps sym.AfterInt k ss (after_int_step k)
sound-after-int (tok.Name at name) ss =
    (tt, λ x. ((listing at name x.0 x.1.0 x.1.1.0 x.1.1.1.0.0 x.1.1.1.0.1, x.1.1.1.1), refl))
sound-after-int (tok.Proc at) ss =
    (tt, λ x. ((proceeding (procedures_from ss at x) (λ int ks. refl), after_procedures ss x), refl))
sound-after-int _ ss = tt

-- a line of items, or the first procedure, from its INT on
from_int : (at : At) (ss : Stack) (x : Things (sym.AfterInt ∷ ss))
    → Made (sym.Lines ∷ ss) (tok.Int at ∷ of_things (sym.AfterInt ∷ ss) x)
from_int at ss (listing name_at name b more end ls ps, rest) =
    (((g.more_lines (g.int_line at (g.item name_at name b) more end) ls, ps), rest), refl)
from_int at ss (proceeding from same, rest) = (((g.no_lines, from (g.gives_int at)), rest), same at (of_things ss rest))

pub sound-lines : (k : Token) (ss : Stack) → Steps sym.Lines k ss (lines_step k)
sound-lines (tok.Int at) ss = (tt, from_int at ss)
sound-lines (tok.Literal at) ss = (
  tt,
  λ x. (
    (
      (
        g.more_lines (g.literal_line at (g.literal x.0.0 x.0.1 x.1.0 x.1.1.0) x.1.1.1.0 x.1.1.1.1.0)
            x.1.1.1.1.1.0.0,
        x.1.1.1.1.1.0.1,
      ),
      x.1.1.1.1.1.1,
    ),
    refl,
  ),
)
sound-lines (tok.Proc at) ss =
    (tt, λ x. (((g.no_lines, procedures_from ss at x g.gives_nothing), after_procedures ss x), refl))
sound-lines _ ss = tt

pub sound-bounds : (k : Token) (ss : Stack) → Steps sym.BoundsTail k ss (bounds_step k)
sound-bounds (tok.OpenIndex at) ss = (tt, λ x. ((g.bounded at x.0 x.1.0 x.1.1.0 x.1.1.1.0, x.1.1.1.1), refl))
sound-bounds _ ss = tt

pub sound-items : (k : Token) (ss : Stack) → Steps sym.ItemsTail k ss (items_step k)
sound-items (tok.Comma at) ss = (tt, λ x. ((g.more_items at (g.item x.0.0 x.0.1 x.1.0) x.1.1.0, x.1.1.1), refl))
sound-items _ ss = tt

pub sound-atom : (k : Token) (ss : Stack) → Steps sym.Atom k ss (atom_step k)
sound-atom (tok.Number at n) ss = (tt, λ x. ((g.digits at n, x), refl))
sound-atom (tok.Name at name) ss = (tt, λ x. ((g.known at name, x), refl))
sound-atom _ ss = tt

pub sound-constant : (k : Token) (ss : Stack) → Steps sym.Constant k ss (constant_step k)
sound-constant (tok.Minus at) ss = (tt, λ x. ((g.negative at x.0, x.1), refl))
sound-constant (tok.Number at n) ss = (tt, λ x. ((g.positive (g.digits at n), x), refl))
sound-constant (tok.Name at name) ss = (tt, λ x. ((g.positive (g.known at name), x), refl))
sound-constant _ ss = tt

pub sound-literals : (k : Token) (ss : Stack) → Steps sym.LiteralsTail k ss (literals_step k)
sound-literals (tok.Comma at) ss =
    (tt, λ x. ((g.more_literals at (g.literal x.0.0 x.0.1 x.1.0 x.1.1.0) x.1.1.1.0, x.1.1.1.1), refl))
sound-literals _ ss = tt

pub sound-parameters : (k : Token) (ss : Stack) → Steps sym.ParametersTail k ss (parameters_step k)
sound-parameters (tok.Open at) ss = (tt, λ x. ((g.parameters at x.0.0 x.0.1 x.1.0 x.1.1.0, x.1.1.1), refl))
sound-parameters _ ss = tt

pub sound-names : (k : Token) (ss : Stack) → Steps sym.NamesTail k ss (names_step k)
sound-names (tok.Comma at) ss = (tt, λ x. ((g.more_names at x.0.0 x.0.1 x.1.0, x.1.1), refl))
sound-names _ ss = tt

pub sound-main : (k : Token) (ss : Stack) → Steps sym.MainTail k ss (main_step k)
sound-main (tok.Main at) ss = (tt, λ x. ((g.is_main at, x), refl))
sound-main _ ss = tt

pub sound-locals : (k : Token) (ss : Stack) → Steps sym.Locals k ss (locals_step k)
sound-locals (tok.Int at) ss =
    (tt, λ x. ((g.more_locals (g.local at x.0.0 x.0.1 x.1.0 x.1.1.0) x.1.1.1.0, x.1.1.1.1), refl))
sound-locals _ ss = tt
