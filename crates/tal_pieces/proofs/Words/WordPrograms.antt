-- The pieces of a printed program can be spelled where its names, bounds and statements can.
use Rattle.std.proofs.Common.{ℕ, zero, suc, Bool, true, false, List, [], ◌∷◌, take, drop}
use Rattle.std.specs.Prelude.{FitsSigned}
use Rattle.std.specs.Int.{w16}
use Rattle.tal_tree.specs.declared.program.Item.{Item}
use Rattle.tal_tree.specs.declared.program.Procedure.{Procedure}
use Rattle.tal_tree.specs.declared.program.Program.{Program}
use Rattle.tal_tree.specs.declared.program.Shape.{Shape}
use Rattle.tal_tree.specs.declared.program.Shape.TheVariants as shape
use Rattle.tal_pieces.specs.declared.piece.Keyword.{Keyword}
use Rattle.tal_pieces.specs.declared.piece.Piece.{Piece}
use Rattle.tal_pieces.specs.declared.piece.Piece.TheVariants as piece
use Rattle.tal_pieces.specs.Cuts.{IsSpellable, AreSpellable}
use Rattle.tal_pieces.specs.Printed.Procedures.{word_if, shape_pieces, items_pieces, more_names, parameters_pieces}
use Rattle.tal_pieces.specs.Printed.Procedures.{locals_pieces, heading_pieces, procedure_pieces, procedures_pieces}
use Rattle.tal_pieces.specs.Printed.Procedures.{main_pieces, program_pieces}
use Rattle.tal_pieces.proofs.Words.WordTrees.{NamesSpell, LocalsSpell, SpellsStatement, spells_body}
use Rattle.tal_pieces.proofs.Common.Entries.{Each, each_take, each_drop}

-- a name that can be spelled
abbrev pub IsName : List ℕ → Type 0
IsName name = IsSpellable (piece.Name name)

pub spells_each : (names : List (List ℕ)) → Each IsName names → LocalsSpell names
spells_each [] h k = tt
spells_each (name ∷ rest) h zero = h.0
spells_each (name ∷ rest) h (suc k) = spells_each rest h.1 k

-- the bounds of an array are words
abbrev pub ShapeSpells : Shape → Type 0
ShapeSpells shape.Simple = Unit {0}
ShapeSpells (shape.Array low high) = FitsSigned w16 low × FitsSigned w16 high
ShapeSpells (shape.File number) = Unit {0}

abbrev pub ItemSpells : Item → Type 0
ItemSpells i = IsName i.name × ShapeSpells i.shape

-- the names and the statements of a procedure can be spelled
pub record ProcedureSpells (p : Program) (q : Procedure) : Type 0 where
  pub name : IsName q.name
  pub locals : Each IsName q.locals
  pub body : Each (SpellsStatement p q.locals) q.body

-- declarations
spells_shape : (x : Shape) (ks : List Piece) → ShapeSpells x → AreSpellable ks → AreSpellable (shape_pieces x ks)
spells_shape shape.Simple ks h k = k
spells_shape (shape.Array low high) ks h k = (tt, (h.0, (tt, (h.1, (tt, k)))))
spells_shape (shape.File number) ks h k = k

spells_items : (items : List Item) (ks : List Piece) → Each ItemSpells items → AreSpellable ks
    → AreSpellable (items_pieces items ks)
spells_items [] ks h k = k
spells_items (i ∷ rest) ks h k = (tt, (h.0.0, spells_shape i.shape _ h.0.1 (tt, spells_items rest ks h.1 k)))

spells_names : (names : List (List ℕ)) (ks : List Piece) → Each IsName names → AreSpellable ks
    → AreSpellable (more_names names ks)
spells_names [] ks h k = k
spells_names (name ∷ rest) ks h k = (tt, (h.0, spells_names rest ks h.1 k))

spells_parameters : (names : List (List ℕ)) (ks : List Piece) → Each IsName names → AreSpellable ks
    → AreSpellable (parameters_pieces names ks)
spells_parameters [] ks h k = k
spells_parameters (name ∷ rest) ks h k = (tt, (h.0, spells_names rest _ h.1 (tt, k)))

spells_locals : (names : List (List ℕ)) (ks : List Piece) → Each IsName names → AreSpellable ks
    → AreSpellable (locals_pieces names ks)
spells_locals [] ks h k = k
spells_locals (name ∷ rest) ks h k = (tt, (h.0, (tt, spells_locals rest ks h.1 k)))

spells_word : (wanted : Bool) (word : Keyword) (ks : List Piece) → AreSpellable ks
    → AreSpellable (word_if wanted word ks)
spells_word true word ks k = (tt, k)
spells_word false word ks k = k

-- procedures, and the whole program
module _ (p : Program) (names : NamesSpell p) where
  spells_heading : (is_main : Bool) (q : Procedure) (ks : List Piece) → ProcedureSpells p q → AreSpellable ks
      → AreSpellable (heading_pieces is_main q ks)
  spells_heading is_main q ks h k =
      let front : Each IsName (take q.parameters q.locals) = each_take IsName q.parameters q.locals h.locals in
      spells_word q.gives _ _ (
        tt,
        (
          h.name,
          spells_parameters (take q.parameters q.locals) _ front
              (spells_word is_main _ _ (tt, spells_locals (take q.parameters q.locals) ks front k)),
        ),
      )

  spells_procedure : (is_main : Bool) (q : Procedure) (ks : List Piece) → ProcedureSpells p q → AreSpellable ks
      → AreSpellable (procedure_pieces p is_main q ks)
  spells_procedure is_main q ks h k =
      spells_heading is_main q _ h (
        tt,
        spells_locals (drop q.parameters q.locals) _ (each_drop IsName q.parameters q.locals h.locals)
            (spells_body p q.locals names (spells_each q.locals h.locals) q.body h.body _ (tt, (tt, k))),
      )

  spells_procedures : (qs : List Procedure) (ks : List Piece) → Each (ProcedureSpells p) qs → AreSpellable ks
      → AreSpellable (procedures_pieces p qs ks)
  spells_procedures [] ks h k = k
  spells_procedures (q ∷ rest) ks h k = spells_procedure false q _ h.0 (spells_procedures rest ks h.1 k)

  spells_main : (qs : List Procedure) (ks : List Piece) → Each (ProcedureSpells p) qs → AreSpellable ks
      → AreSpellable (main_pieces p qs ks)
  spells_main [] ks h k = k
  spells_main (q ∷ rest) ks h k = spells_procedure true q _ h.0 (spells_procedures rest ks h.1 k)

  pub spells_program : Each ItemSpells p.items → Each (ProcedureSpells p) p.procedures → AreSpellable (program_pieces p)
  spells_program items procedures =
      spells_items p.items _ items (spells_procedures (take p.main p.procedures) _
      (each_take (ProcedureSpells p) p.main p.procedures procedures)
      (spells_main (drop p.main p.procedures) [] (each_drop (ProcedureSpells p) p.main p.procedures procedures) tt))
