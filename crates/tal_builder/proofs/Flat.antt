-- The tokens of declarations open no level: what is said of their levels says the same of what follows, and the other
-- way round.
use Rattle.std.proofs.Common.{ℕ, ◌≤◌, List, ◌∷◌}
use Rattle.tal_syntax.specs.Grammar as g
use Rattle.tal_syntax.specs.Expected.{AllAtMost}
use Rattle.tal_syntax.specs.Nesting.{nest_atom, nest_constant, nest_bounds, nest_item, nest_items, nest_literal}
use Rattle.tal_syntax.specs.Nesting.{nest_literals, nest_globals, nest_lines, nest_names, nest_parameters, nest_local}
use Rattle.tal_syntax.specs.Nesting.{nest_locals, nest_gives, nest_main, nest_heading, nest_step}

-- tokens at an allowed level before allowed ones
abbrev Flat : {X : Type 0} → (ℕ → X → List ℕ → List ℕ) → Type 0
Flat {X = X} nest = (x : X) (n m : ℕ) (ls : List ℕ) → n ≤ m → AllAtMost m ls → AllAtMost m (nest n x ls)

flat_atom : Flat nest_atom
flat_atom (g.digits at v) n m ls l a = (l, a)
flat_atom (g.known at name) n m ls l a = (l, a)

flat_constant : Flat nest_constant
flat_constant (g.positive x) n m ls l a = flat_atom x n m ls l a
flat_constant (g.negative sign x) n m ls l a = (l, flat_atom x n m ls l a)

pub flat_step : Flat nest_step
flat_step g.step_one n m ls l a = a
flat_step (g.step_by at c) n m ls l a = (l, flat_constant c n m ls l a)

flat_bounds : Flat nest_bounds
flat_bounds g.unbounded n m ls l a = a
flat_bounds (g.bounded start low colon high close) n m ls l a =
    (l, flat_constant low n m (n ∷ nest_constant n high (n ∷ ls)) l (l, flat_constant high n m (n ∷ ls) l (l, a)))

flat_item : Flat nest_item
flat_item (g.item at name b) n m ls l a = (l, flat_bounds b n m ls l a)

flat_items : Flat nest_items
flat_items g.no_items n m ls l a = a
flat_items (g.more_items comma i r) n m ls l a = (l, flat_item i n m (nest_items n r ls) l (flat_items r n m ls l a))

flat_literal : Flat nest_literal
flat_literal (g.literal at name equal c) n m ls l a = (l, (l, flat_constant c n m ls l a))

flat_literals : Flat nest_literals
flat_literals g.no_literals n m ls l a = a
flat_literals (g.more_literals comma i r) n m ls l a =
    (l, flat_literal i n m (nest_literals n r ls) l (flat_literals r n m ls l a))

flat_globals : Flat nest_globals
flat_globals (g.int_line int first more end) n m ls l a =
    (l, flat_item first n m (nest_items n more (n ∷ ls)) l (flat_items more n m (n ∷ ls) l (l, a)))
flat_globals (g.literal_line word first more end) n m ls l a =
    (l, flat_literal first n m (nest_literals n more (n ∷ ls)) l (flat_literals more n m (n ∷ ls) l (l, a)))

pub flat_lines : Flat nest_lines
flat_lines g.no_lines n m ls l a = a
flat_lines (g.more_lines x r) n m ls l a = flat_globals x n m (nest_lines n r ls) l (flat_lines r n m ls l a)

flat_names : Flat nest_names
flat_names g.no_names n m ls l a = a
flat_names (g.more_names comma at name r) n m ls l a = (l, (l, flat_names r n m ls l a))

flat_parameters : Flat nest_parameters
flat_parameters g.no_parameters n m ls l a = a
flat_parameters (g.parameters start at name more close) n m ls l a = (l, (l, flat_names more n m (n ∷ ls) l (l, a)))

flat_local : Flat nest_local
flat_local (g.local int at name more end) n m ls l a = (l, (l, flat_names more n m (n ∷ ls) l (l, a)))

pub flat_locals : Flat nest_locals
flat_locals g.no_locals n m ls l a = a
flat_locals (g.more_locals x r) n m ls l a = flat_local x n m (nest_locals n r ls) l (flat_locals r n m ls l a)

flat_gives : Flat nest_gives
flat_gives g.gives_nothing n m ls l a = a
flat_gives (g.gives_int at) n m ls l a = (l, a)

flat_main : Flat nest_main
flat_main g.not_main n m ls l a = a
flat_main (g.is_main at) n m ls l a = (l, a)

pub flat_heading : Flat nest_heading
flat_heading (g.heading gives proc at name p main end) n m ls l a =
    flat_gives gives n m (n ∷ n ∷ nest_parameters n p (nest_main n main (n ∷ ls))) l
    (l, (l, flat_parameters p n m (nest_main n main (n ∷ ls)) l (flat_main main n m (n ∷ ls) l (l, a))))

-- and after tokens
abbrev After : {X : Type 0} → (ℕ → X → List ℕ → List ℕ) → Type 0
After {X = X} nest = (x : X) (n m : ℕ) (ls : List ℕ) → AllAtMost m (nest n x ls) → AllAtMost m ls

after_atom : After nest_atom
after_atom (g.digits at v) n m ls a = a.1
after_atom (g.known at name) n m ls a = a.1

after_constant : After nest_constant
after_constant (g.positive x) n m ls a = after_atom x n m ls a
after_constant (g.negative sign x) n m ls a = after_atom x n m ls a.1

pub after_step : After nest_step
after_step g.step_one n m ls a = a
after_step (g.step_by at c) n m ls a = after_constant c n m ls a.1

after_bounds : After nest_bounds
after_bounds g.unbounded n m ls a = a
after_bounds (g.bounded start low colon high close) n m ls a =
    (after_constant high n m (n ∷ ls) (after_constant low n m (n ∷ nest_constant n high (n ∷ ls)) a.1).1).1

after_item : After nest_item
after_item (g.item at name b) n m ls a = after_bounds b n m ls a.1

after_items : After nest_items
after_items g.no_items n m ls a = a
after_items (g.more_items comma i r) n m ls a = after_items r n m ls (after_item i n m (nest_items n r ls) a.1)

after_literal : After nest_literal
after_literal (g.literal at name equal c) n m ls a = after_constant c n m ls a.1.1

after_literals : After nest_literals
after_literals g.no_literals n m ls a = a
after_literals (g.more_literals comma i r) n m ls a =
    after_literals r n m ls (after_literal i n m (nest_literals n r ls) a.1)

after_globals : After nest_globals
after_globals (g.int_line int first more end) n m ls a =
    (after_items more n m (n ∷ ls) (after_item first n m (nest_items n more (n ∷ ls)) a.1)).1
after_globals (g.literal_line word first more end) n m ls a =
    (after_literals more n m (n ∷ ls) (after_literal first n m (nest_literals n more (n ∷ ls)) a.1)).1

pub after_lines : After nest_lines
after_lines g.no_lines n m ls a = a
after_lines (g.more_lines x r) n m ls a = after_lines r n m ls (after_globals x n m (nest_lines n r ls) a)

after_names : After nest_names
after_names g.no_names n m ls a = a
after_names (g.more_names comma at name r) n m ls a = after_names r n m ls a.1.1

after_parameters : After nest_parameters
after_parameters g.no_parameters n m ls a = a
after_parameters (g.parameters start at name more close) n m ls a = (after_names more n m (n ∷ ls) a.1.1).1

after_local : After nest_local
after_local (g.local int at name more end) n m ls a = (after_names more n m (n ∷ ls) a.1.1).1

pub after_locals : After nest_locals
after_locals g.no_locals n m ls a = a
after_locals (g.more_locals x r) n m ls a = after_locals r n m ls (after_local x n m (nest_locals n r ls) a)

after_gives : After nest_gives
after_gives g.gives_nothing n m ls a = a
after_gives (g.gives_int at) n m ls a = a.1

after_main : After nest_main
after_main g.not_main n m ls a = a
after_main (g.is_main at) n m ls a = a.1

pub after_heading : After nest_heading
after_heading (g.heading gives proc at name p main end) n m ls a =
    (after_main main n m (n ∷ ls) (after_parameters p n m (nest_main n main (n ∷ ls))
    (after_gives gives n m (n ∷ n ∷ nest_parameters n p (nest_main n main (n ∷ ls))) a).1.1)).1
