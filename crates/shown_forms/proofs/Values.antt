-- The values of expressions are words.
use Rattle.std.proofs.Common.{ℕ, suc, zero, ℤ, pos, negsuc, List, [], ◌∷◌, slice_get, Option, Some, None, arith}
use Rattle.std.specs.Prelude.{option_map, option_and_then, neg_ℤ}
use Rattle.gd_words.specs.Arithmetic.{wrap}
use Rattle.tal_tree.specs.declared.expression.Expr.{Expr, Number, Read', Minus', Two', Row_of-Spot, end_of-Spot}
use Rattle.tal_tree.specs.declared.expression.Expr.{more_of-Spot}
use Rattle.tal_tree.specs.declared.expression.Op.{Op}
use Rattle.tal_tree.specs.declared.expression.Op.TheVariants.{Add, Sub, Mul, Div}
use Rattle.tal_values.specs.Value.{Memory, both, cell_of, result_of, spot_in, value_in, value_of, word_at}
use Rattle.tal_values.specs.declared.memory.Cell.{Cell}
use Rattle.tal_values.specs.declared.memory.Cell.TheVariants as cell
use Rattle.process_semantics.specs.Steps as steps
use Rattle.process_semantics.specs.Steps.{values_of}
use Rattle.told_reports.specs.InForm.{AreEach}
use Rattle.told_reports.specs.Words.{AreWords}
use Rattle.shown_forms.specs.Numbers.{IsAnswerWord, IsWordThere}
use Rattle.shown_forms.proofs.Lists.{IfSo, IfWord, get-each, get-word, wrapped-word}

op-word : (op : Op) (x y : ℤ) → IfWord (result_of op x y)
op-word Add x y = wrapped-word _
op-word Sub x y = wrapped-word _
op-word Mul x y = wrapped-word _
op-word Div x (pos zero) = tt
op-word Div x (pos (suc n)) = wrapped-word _
op-word Div x (negsuc n) = wrapped-word _

both-word : (op : Op) (a b : Option ℤ) → IfWord (both (result_of op) a b)
both-word op None b = tt
both-word op (Some x) None = tt
both-word op (Some x) (Some y) = op-word op x y

minus-word : (o : Option ℤ) → IfWord (option_map (λ x. wrap (neg_ℤ x)) o)
minus-word None = tt
minus-word (Some x) = wrapped-word _

module _ (m : Memory) (globals : AreEach AreWords m.globals) (locals : AreWords m.locals) where
  in-global : (offset : ℕ) (o : Option (List ℤ)) → IfSo AreWords o
      → IfWord (option_and_then (λ words. slice_get words offset) o)
  in-global offset None is = tt
  in-global offset (Some words) is = get-word words offset is

  pub cell-word : (to : Cell) → IfWord (word_at m to)
  cell-word (cell.Local k) = get-word m.locals k locals
  cell-word (cell.Global item offset) =
      in-global offset (slice_get m.globals item) (get-each AreWords m.globals item globals)

  at-cell : (o : Option Cell) → IfWord (option_and_then (word_at m) o)
  at-cell None = tt
  at-cell (Some to) = cell-word to

  spot-word : {n : _} (row : Row_of-Spot n) → IfWord (spot_in m row)
  spot-word end_of-Spot = tt
  spot-word (more_of-Spot spot rest) = at-cell (cell_of m spot)

  pub value-word : (e : Expr) → IsWordThere e → IfWord (value_of m e)
  value-word (Number n) is = is
  value-word (Read' _ row) is = spot-word row
  value-word (Minus' _ row) is = minus-word (value_in m row)
  value-word (Two' op _ first _ second) is = both-word op (value_in m first) (value_in m second)

  more-words : (value : Option ℤ) (later : Option (List ℤ)) → IfWord value → IfSo AreWords later
      → IfSo AreWords (option_and_then (λ word. option_map (λ words. word ∷ words) later) value)
  more-words None later one all = tt
  more-words (Some word) None one all = tt
  more-words (Some word) (Some words) one all = (one, all)

  pub values-words : (es : List Expr) → AreEach IsWordThere es → IfSo AreWords (values_of m es)
  values-words [] are = tt
  values-words (e ∷ es) are =
      more-words (value_of m e) (values_of m es) (value-word e are.0) (values-words es are.1)

  pub answer-word : (value : Option Expr) → IsAnswerWord value → IfWord (steps.result_of m value)
  answer-word None is = omega arith
  answer-word (Some e) is = value-word e is
