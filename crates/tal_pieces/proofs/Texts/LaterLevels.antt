-- Levels of what stands after the head of a procedure, and of all procedures after one.
use Rattle.std.proofs.Common.{ℕ, List, ◌∷◌}
use Rattle.tal_syntax.specs.Grammar as g
use Rattle.tal_syntax.specs.Expected.{AllAtMost}
use Rattle.tal_syntax.specs.Nesting.{nest_names, nest_parameters, nest_main, nest_heading, nest_local, nest_locals}
use Rattle.tal_syntax.specs.Nesting.{nest_gives, nest_atom, nest_constant, nest_bounds, nest_item, nest_items}
use Rattle.tal_syntax.specs.Nesting.{nest_literal, nest_literals, nest_globals, nest_lines}

module _ (most n : ℕ) where
  after_names : (x : g.Names) (ls : List ℕ) → AllAtMost most (nest_names n x ls) → AllAtMost most ls
  after_names g.no_names ls h = h
  after_names (g.more_names comma at name rest) ls h = after_names rest ls h.1.1

  after_parameters : (x : g.Parameters) (ls : List ℕ) → AllAtMost most (nest_parameters n x ls) → AllAtMost most ls
  after_parameters g.no_parameters ls h = h
  after_parameters (g.parameters start at name more close) ls h = (after_names more (n ∷ ls) h.1.1).1

  after_main : (x : g.Main) (ls : List ℕ) → AllAtMost most (nest_main n x ls) → AllAtMost most ls
  after_main g.not_main ls h = h
  after_main (g.is_main at) ls h = h.1

  after_gives : (x : g.Gives) (ls : List ℕ) → AllAtMost most (nest_gives n x ls) → AllAtMost most ls
  after_gives g.gives_nothing ls h = h
  after_gives (g.gives_int at) ls h = h.1

  pub after_heading : (x : g.Heading) (ls : List ℕ) → AllAtMost most (nest_heading n x ls) → AllAtMost most ls
  after_heading (g.heading gives proc at name listed main end) ls h =
      (after_main main (n ∷ ls) (after_parameters listed (nest_main n main (n ∷ ls))
      (after_gives gives (n ∷ n ∷ nest_parameters n listed (nest_main n main (n ∷ ls))) h).1.1)).1

  after_local : (x : g.Local) (ls : List ℕ) → AllAtMost most (nest_local n x ls) → AllAtMost most ls
  after_local (g.local int at name more end) ls h = (after_names more (n ∷ ls) h.1.1).1

  pub after_locals : (x : g.Locals) (ls : List ℕ) → AllAtMost most (nest_locals n x ls) → AllAtMost most ls
  after_locals g.no_locals ls h = h
  after_locals (g.more_locals l rest) ls h = after_locals rest ls (after_local l (nest_locals n rest ls) h)

  after_atom : (x : g.Atom) (ls : List ℕ) → AllAtMost most (nest_atom n x ls) → AllAtMost most ls
  after_atom (g.digits at value) ls h = h.1
  after_atom (g.known at name) ls h = h.1

  after_constant : (x : g.Constant) (ls : List ℕ) → AllAtMost most (nest_constant n x ls) → AllAtMost most ls
  after_constant (g.positive a) ls h = after_atom a ls h
  after_constant (g.negative sign a) ls h = after_atom a ls h.1

  after_bounds : (x : g.Bounds) (ls : List ℕ) → AllAtMost most (nest_bounds n x ls) → AllAtMost most ls
  after_bounds g.unbounded ls h = h
  after_bounds (g.bounded start low colon high close) ls h =
      (after_constant high (n ∷ ls) (after_constant low (n ∷ nest_constant n high (n ∷ ls)) h.1).1).1

  after_item : (x : g.Item) (ls : List ℕ) → AllAtMost most (nest_item n x ls) → AllAtMost most ls
  after_item (g.item at name b) ls h = after_bounds b ls h.1

  after_items : (x : g.Items) (ls : List ℕ) → AllAtMost most (nest_items n x ls) → AllAtMost most ls
  after_items g.no_items ls h = h
  after_items (g.more_items comma i rest) ls h = after_items rest ls (after_item i (nest_items n rest ls) h.1)

  after_literal : (x : g.Literal) (ls : List ℕ) → AllAtMost most (nest_literal n x ls) → AllAtMost most ls
  after_literal (g.literal at name equal c) ls h = after_constant c ls h.1.1

  after_literals : (x : g.Literals) (ls : List ℕ) → AllAtMost most (nest_literals n x ls) → AllAtMost most ls
  after_literals g.no_literals ls h = h
  after_literals (g.more_literals comma l rest) ls h =
      after_literals rest ls (after_literal l (nest_literals n rest ls) h.1)

  after_globals : (x : g.Globals) (ls : List ℕ) → AllAtMost most (nest_globals n x ls) → AllAtMost most ls
  after_globals (g.int_line int first more end) ls h =
      (after_items more (n ∷ ls) (after_item first (nest_items n more (n ∷ ls)) h.1)).1
  after_globals (g.literal_line word first more end) ls h =
      (after_literals more (n ∷ ls) (after_literal first (nest_literals n more (n ∷ ls)) h.1)).1

  pub after_lines : (x : g.Lines) (ls : List ℕ) → AllAtMost most (nest_lines n x ls) → AllAtMost most ls
  after_lines g.no_lines ls h = h
  after_lines (g.more_lines l rest) ls h = after_lines rest ls (after_globals l (nest_lines n rest ls) h)
