-- The printed parts of a tree can be spelled.
use Rattle.std.proofs.Common.{◌≡◌, ℕ, ℤ, int_lt, if◌then◌else◌, Bool, true, false, List, [], ◌∷◌, sym, subst}
use Rattle.std.specs.Prelude.{pos, slice_get, Option, Some, None, FitsSigned}
use Rattle.std.specs.Int.{w16}
use Rattle.std.specs.List.{position}
use Rattle.std.specs.Option.{option_and_then}
use Rattle.tal_tree.specs.declared.expression.Op.{Op}
use Rattle.tal_tree.specs.declared.expression.Rel.{Rel}
use Rattle.tal_tree.specs.declared.expression.Variable.{Variable}
use Rattle.tal_tree.specs.declared.expression.Variable.TheVariants as variable
use Rattle.tal_tree.specs.declared.expression.Spot.{Spot, Local, Simple, Element}
use Rattle.tal_tree.specs.declared.expression.Expr.{Expr, Number, Read, Minus, Two}
use Rattle.tal_tree.specs.declared.expression.Cond.{Cond, Truth, Compare, Not, And, Or}
use Rattle.tal_tree.specs.declared.program.FileUse.{FileUse}
use Rattle.tal_tree.specs.declared.program.Program.{Program}
use Rattle.tal_tree.specs.declared.statement.Statement.{Statement}
use Rattle.tal_tree.specs.declared.statement.What.{What}
use Rattle.tal_tree.specs.declared.statement.What.TheVariants as what
use Rattle.tal_pieces.specs.declared.piece.Keyword.TheVariants as word
use Rattle.tal_pieces.specs.declared.piece.Piece.{Piece}
use Rattle.tal_pieces.specs.declared.piece.Piece.TheVariants as piece
use Rattle.tal_pieces.specs.declared.rank.ValueRank.{ValueRank}
use Rattle.tal_pieces.specs.declared.rank.ValueRank.TheVariants as value
use Rattle.tal_pieces.specs.declared.rank.TestRank.{TestRank}
use Rattle.tal_pieces.specs.declared.rank.TestRank.TheVariants as test
use Rattle.tal_pieces.specs.Cuts.{IsSpellable, AreSpellable}
use Rattle.tal_pieces.specs.Printed.Expressions.{opening, closing, value_needs, left_rank, right_rank, and_needs}
use Rattle.tal_pieces.specs.Printed.Expressions.{or_needs, value_pieces, spot_pieces, test_pieces, more_values}
use Rattle.tal_pieces.specs.Printed.Expressions.{arguments}
use Rattle.tal_pieces.specs.Printed.Names.{named, item_name, variable_name, procedure_name, file_name, receive_name}
use Rattle.tal_pieces.specs.Printed.Names.{target_piece}
use Rattle.tal_tree.specs.Targets.{receives}
use Rattle.tal_pieces.specs.Printed.Statements.{step_pieces, what_pieces, inner_pieces, more_statements, body_pieces}
use Rattle.tal_pieces.specs.Printed.Statements.{more_files, more_items, checkpoint_list, open_pieces}
use Rattle.tal_pieces.proofs.Values.Layers.{pieces_read, pieces_minus, pieces_two, pieces_not, pieces_and, pieces_or}
use Rattle.tal_pieces.proofs.Values.Layers.{pieces_if, pieces_while, pieces_for, pieces_do}
use Rattle.tal_pieces.proofs.Common.Entries.{Each}

-- a name, where there is one, can be spelled, and a file's target and depth can
abbrev pub NameSpells : Option (List ℕ) → Type 0
NameSpells None = Unit {0}
NameSpells (Some name) = IsSpellable (piece.Name name)

abbrev pub UseSpells : FileUse → Type 0
UseSpells opened = IsSpellable (target_piece opened.target) × FitsSigned w16 (pos opened.depth)

abbrev pub FileSpells : Option FileUse → Type 0
FileSpells None = Unit {0}
FileSpells (Some opened) = UseSpells opened

-- the names and the files of a program can be spelled
pub record NamesSpell (p : Program) : Type 0 where
  pub items : (k : ℕ) → NameSpells (item_name p k)
  pub procedures : (k : ℕ) → NameSpells (procedure_name p k)
  pub files : (k : ℕ) → FileSpells (slice_get p.files k)

-- the locals of a procedure can
abbrev pub LocalsSpell : List (List ℕ) → Type 0
LocalsSpell locals = (k : ℕ) → NameSpells (slice_get locals k)

-- the same pieces, parentheses, and names
moved : {xs ys : List Piece} → xs ≡ ys → AreSpellable ys → AreSpellable xs
moved e h = subst AreSpellable (sym e) h

opens_well : (b : Bool) (ks : List Piece) → AreSpellable ks → AreSpellable (opening b ks)
opens_well true ks h = (tt, h)
opens_well false ks h = h

closes_well : (b : Bool) (ks : List Piece) → AreSpellable ks → AreSpellable (closing b ks)
closes_well true ks h = (tt, h)
closes_well false ks h = h

named_well : (found : Option (List ℕ)) (ks : List Piece) → NameSpells found → AreSpellable ks
    → AreSpellable (named found ks)
named_well None ks n h = h
named_well (Some name) ks n h = (n, h)

-- a part of a tree whose pieces can be spelled, where those after it can
module _ (p : Program) (locals : List (List ℕ)) where
  abbrev pub SpellsValue : Expr → Type 0
  SpellsValue e = (r : ValueRank) (ks : List Piece) → AreSpellable ks → AreSpellable (value_pieces p locals r e ks)

  abbrev pub SpellsSpot : Spot → Type 0
  SpellsSpot x = (ks : List Piece) → AreSpellable ks → AreSpellable (spot_pieces p locals x ks)

  abbrev pub SpellsTest : Cond → Type 0
  SpellsTest c = (r : TestRank) (ks : List Piece) → AreSpellable ks → AreSpellable (test_pieces p locals r c ks)

  abbrev pub SpellsWhat : What → Type 0
  SpellsWhat w = (ks : List Piece) → AreSpellable ks → AreSpellable (what_pieces p locals w ks)

  abbrev pub SpellsStatement : Statement → Type 0
  SpellsStatement x = SpellsWhat x.what

module _ (p : Program) (locals : List (List ℕ)) (names : NamesSpell p) (own : LocalsSpell locals) where
  -- values and targets
  pub spells_number : (n : _) → FitsSigned w16 n → SpellsValue p locals (Number n)
  spells_number n h r ks k = (h, k)

  pub spells_read : (x : Spot) → SpellsSpot p locals x → SpellsValue p locals (Read x)
  spells_read x h r ks k = moved (pieces_read p locals r x ks) (h ks k)

  pub spells_minus : (e : Expr) → SpellsValue p locals e → SpellsValue p locals (Minus e)
  spells_minus e h r ks k = moved (pieces_minus p locals r e ks) (tt, h value.Factor ks k)

  pub spells_two : (o : Op) (left right : Expr) → SpellsValue p locals left → SpellsValue p locals right
      → SpellsValue p locals (Two o left right)
  spells_two o left right hl hr r ks k =
      moved (pieces_two p locals r o left right ks)
      (opens_well (value_needs r o) _ (hl (left_rank o) _
      (tt, hr (right_rank o) _ (closes_well (value_needs r o) ks k))))

  pub spells_local : (place : ℕ) → SpellsSpot p locals (Local place)
  spells_local place ks k = named_well (slice_get locals place) ks (own place) k

  pub spells_simple : (item : ℕ) → SpellsSpot p locals (Simple item)
  spells_simple item ks k = named_well (item_name p item) ks (names.items item) k

  pub spells_element : (item : ℕ) (index : Expr) → SpellsValue p locals index → SpellsSpot p locals (Element item index)
  spells_element item index h ks k = named_well (item_name p item) _ (names.items item) (tt, h value.Sum _ (tt, k))

  -- conditions
  pub spells_truth : (e : Expr) → SpellsValue p locals e → SpellsTest p locals (Truth e)
  spells_truth e h r ks k = h value.Sum ks k

  pub spells_compare : (o : Rel) (left right : Expr) → SpellsValue p locals left → SpellsValue p locals right
      → SpellsTest p locals (Compare o left right)
  spells_compare o left right hl hr r ks k = hl value.Sum _ (tt, hr value.Sum ks k)

  pub spells_not : (c : Cond) → SpellsTest p locals c → SpellsTest p locals (Not c)
  spells_not c h r ks k = moved (pieces_not p locals r c ks) (tt, h test.Not ks k)

  pub spells_and : (left right : Cond) → SpellsTest p locals left → SpellsTest p locals right
      → SpellsTest p locals (And left right)
  spells_and left right hl hr r ks k =
      moved (pieces_and p locals r left right ks)
      (opens_well (and_needs r) _ (hl test.And _ (tt, hr test.Not _ (closes_well (and_needs r) ks k))))

  pub spells_or : (left right : Cond) → SpellsTest p locals left → SpellsTest p locals right
      → SpellsTest p locals (Or left right)
  spells_or left right hl hr r ks k =
      moved (pieces_or p locals r left right ks)
      (opens_well (or_needs r) _ (hl test.Or _ (tt, hr test.And _ (closes_well (or_needs r) ks k))))

  -- names
  spells_variable : (x : Variable) → NameSpells (variable_name p locals x)
  spells_variable (variable.Local place) = own place
  spells_variable (variable.Simple item) = names.items item

  by_use : (found : Option FileUse) → NameSpells (option_and_then (λ opened. item_name p opened.item) found)
  by_use None = tt
  by_use (Some opened) = names.items opened.item

  spells_file : (number : ℕ) → NameSpells (file_name p number)
  spells_file number = by_use (slice_get p.files number)

  by_place : (found : Option ℕ) → NameSpells (option_and_then (file_name p) found)
  by_place None = tt
  by_place (Some number) = spells_file number

  spells_receive : NameSpells (receive_name p)
  spells_receive = by_place (position receives p.files)

  -- lists of values
  spells_more : (es : List Expr) → Each (SpellsValue p locals) es → (ks : List Piece) → AreSpellable ks
      → AreSpellable (more_values p locals es ks)
  spells_more [] h ks k = k
  spells_more (e ∷ es) h ks k = (tt, h.0 value.Sum _ (spells_more es h.1 ks k))

  spells_arguments : (es : List Expr) → Each (SpellsValue p locals) es → (ks : List Piece) → AreSpellable ks
      → AreSpellable (arguments p locals es ks)
  spells_arguments [] h ks k = k
  spells_arguments (e ∷ es) h ks k = (tt, h.0 value.Sum _ (spells_more es h.1 _ (tt, k)))

  -- lists of statements
  spells_further : (xs : List Statement) → Each (SpellsStatement p locals) xs → (ks : List Piece) → AreSpellable ks
      → AreSpellable (more_statements p locals xs ks)
  spells_further [] h ks k = k
  spells_further (x ∷ xs) h ks k = (tt, h.0 _ (spells_further xs h.1 ks k))

  spells_inner : (xs : List Statement) → Each (SpellsStatement p locals) xs → (ks : List Piece) → AreSpellable ks
      → AreSpellable (inner_pieces p locals xs ks)
  spells_inner [] h ks k = k
  spells_inner (x ∷ []) h ks k = h.0 ks k
  spells_inner (x ∷ y ∷ xs) h ks k = (tt, h.0 _ (tt, h.1.0 _ (spells_further xs h.1.1 _ (tt, k))))

  pub spells_body : (xs : List Statement) → Each (SpellsStatement p locals) xs → (ks : List Piece) → AreSpellable ks
      → AreSpellable (body_pieces p locals xs ks)
  spells_body [] h ks k = k
  spells_body (x ∷ xs) h ks k = h.0 _ (spells_further xs h.1 ks k)

  -- statements
  pub spells_assign : (to : Spot) (e : Expr) → SpellsSpot p locals to → SpellsValue p locals e
      → SpellsWhat p locals (what.Assign to e)
  spells_assign to e ht he ks k = ht _ (tt, he value.Sum ks k)

  pub spells_assign_call : (to : Spot) (number : ℕ) (es : List Expr) → SpellsSpot p locals to
      → Each (SpellsValue p locals) es
      → SpellsWhat p locals (what.AssignCall to number es)
  spells_assign_call to number es ht he ks k =
      ht _ (tt, named_well (procedure_name p number) _ (names.procedures number) (spells_arguments es he ks k))

  pub spells_if : (c : Cond) (first second : List Statement) → SpellsTest p locals c
      → Each (SpellsStatement p locals) first → Each (SpellsStatement p locals) second
      → SpellsWhat p locals (what.If c first second)
  spells_if c first second hc hf hs ks k =
      moved (pieces_if p locals c first second ks)
      (tt, hc test.Or _ (tt, spells_inner first hf _ (tt, spells_inner second hs ks k)))

  pub spells_while : (c : Cond) (body : List Statement) → SpellsTest p locals c → Each (SpellsStatement p locals) body
      → SpellsWhat p locals (what.While c body)
  spells_while c body hc hb ks k =
      moved (pieces_while p locals c body ks) (tt, hc test.Or _ (tt, spells_inner body hb ks k))

  step_well : (step : ℤ) → FitsSigned w16 step → (ks : List Piece) → AreSpellable ks
      → AreSpellable (step_pieces step ks)
  step_well step h ks k = by (int_lt (pos 1) step)
    where
      by : (b : Bool) → AreSpellable (if b then piece.Keyword word.By ∷ piece.Number step ∷ ks else ks)
      by true = (tt, (h, k))
      by false = k

  pub spells_for : (x : Variable) (from to : Expr) (down : Bool) (step : ℤ) (body : List Statement) (last : ℕ)
      → SpellsValue p locals from → SpellsValue p locals to → FitsSigned w16 step
      → Each (SpellsStatement p locals) body → SpellsWhat p locals (what.For x from to down step body last)
  spells_for x from to down step body last hf ht hs hb ks k =
      moved (pieces_for p locals x from to down step body last ks) (
        tt,
        named_well (variable_name p locals x) _ (spells_variable x)
            (tt, hf value.Sum _ (tt, ht value.Sum _ (step_well step hs _ (tt, spells_inner body hb ks k)))),
      )

  pub spells_do : (body : List Statement) (c : Cond) → Each (SpellsStatement p locals) body → SpellsTest p locals c
      → SpellsWhat p locals (what.DoUntil body c)
  spells_do body c hb hc ks k =
      moved (pieces_do p locals body c ks) (tt, spells_inner body hb _ (tt, hc test.Or ks k))

  pub spells_call : (number : ℕ) (es : List Expr) → Each (SpellsValue p locals) es
      → SpellsWhat p locals (what.Call number es)
  spells_call number es he ks k =
      (tt, named_well (procedure_name p number) _ (names.procedures number) (spells_arguments es he ks k))

  pub spells_return : SpellsWhat p locals (what.Return None)
  spells_return ks k = (tt, k)

  pub spells_answer : (e : Expr) → SpellsValue p locals e → SpellsWhat p locals (what.Return (Some e))
  spells_answer e h ks k = (tt, h value.Sum ks k)

  pub spells_read_update : (buffer : ℕ) (most : Expr) (got : Variable) → SpellsValue p locals most
      → SpellsWhat p locals (what.ReadUpdate buffer most got)
  spells_read_update buffer most got h ks k = (
    tt,
    (
      tt,
      (
        tt,
        named_well (receive_name p) _ spells_receive (
          tt,
          named_well (item_name p buffer) _ (names.items buffer)
              (tt, h value.Sum _ (tt, named_well (variable_name p locals got) _ (spells_variable got) (tt, k))),
        ),
      ),
    ),
  )

  pub spells_reply : (buffer : ℕ) (count : Expr) → SpellsValue p locals count
      → SpellsWhat p locals (what.Reply buffer count)
  spells_reply buffer count h ks k =
      (tt, (tt, (tt, named_well (item_name p buffer) _ (names.items buffer) (tt, h value.Sum _ (tt, k)))))

  pub spells_write_read : (file buffer : ℕ) (send room : Expr) (got : Variable) → SpellsValue p locals send
      → SpellsValue p locals room
      → SpellsWhat p locals (what.WriteRead file buffer send room got)
  spells_write_read file buffer send room got hs hr ks k = (
    tt,
    (
      tt,
      (
        tt,
        named_well (file_name p file) _ (spells_file file) (
          tt,
          named_well (item_name p buffer) _ (names.items buffer) (
            tt,
            hs value.Sum _ (
              tt,
              hr value.Sum _
                  (tt, named_well (variable_name p locals got) _ (spells_variable got) (tt, k)),
            ),
          ),
        ),
      ),
    ),
  )

  -- CHECKPOINT and its list
  more_files_well : (files : List ℕ) (ks : List Piece) → AreSpellable ks → AreSpellable (more_files p files ks)
  more_files_well [] ks k = k
  more_files_well (file ∷ files) ks k =
      (tt, named_well (file_name p file) _ (spells_file file) (more_files_well files ks k))

  more_items_well : (items : List ℕ) (ks : List Piece) → AreSpellable ks → AreSpellable (more_items p items ks)
  more_items_well [] ks k = k
  more_items_well (item ∷ items) ks k =
      (tt, named_well (item_name p item) _ (names.items item) (more_items_well items ks k))

  kept_well : (items files : List ℕ) (ks : List Piece) → AreSpellable ks
      → AreSpellable (checkpoint_list p items files ks)
  kept_well [] [] ks k = k
  kept_well [] (file ∷ files) ks k =
      (tt, named_well (file_name p file) _ (spells_file file) (more_files_well files _ (tt, k)))
  kept_well (item ∷ items) files ks k = (
    tt,
    named_well (item_name p item) _ (names.items item)
        (more_items_well items _ (more_files_well files _ (tt, k))),
  )

  pub spells_checkpoint : (items files : List ℕ) → SpellsWhat p locals (what.Checkpoint items files)
  spells_checkpoint items files ks k = (tt, (tt, kept_well items files ks k))

  pub spells_monitor : SpellsWhat p locals what.CheckMonitor
  spells_monitor ks k = (tt, (tt, k))

  -- OPEN
  open_well : (found : Option FileUse) → FileSpells found → (ks : List Piece) → AreSpellable ks
      → AreSpellable (open_pieces p found ks)
  open_well None h ks k = k
  open_well (Some opened) h ks k = (
    tt,
    (
      tt,
      (tt, (h.0, (tt, named_well (item_name p opened.item) _ (names.items opened.item) (tt, (h.1, (tt, k)))))),
    ),
  )

  pub spells_open : (file : ℕ) → SpellsWhat p locals (what.Open file)
  spells_open file ks k = open_well (slice_get p.files file) (names.files file) ks k

  pub spells_stop : SpellsWhat p locals what.Stop
  spells_stop ks k = (tt, (tt, k))
