-- The nodes that parts of a program get when it is loaded.
use Rattle.std.specs.Prelude.{◌≡◌, ◌≤◌, ◌<◌, ℕ, List, [], ◌∷◌, ◌++◌, length, drop, flat_map, None}
use Rattle.gd_words.specs.Members.{IsAmong}
use Rattle.tal_tree.specs.Statements.{body_before, numbers_before, numbers_within}
use Rattle.tal_tree.specs.declared.program.Procedure.{Procedure}
use Rattle.tal_tree.specs.declared.statement.Statement.{Statement}
use Rattle.tal_tree.specs.declared.statement.What.{What, What-F, out-What}
use Rattle.process_semantics.specs.Rests.{entry_number, next_number, rests_before, rests_in, rests_of}
use Rattle.process_semantics.specs.State.{Entry, Run, runs_of}
use Rattle.program_deeds.specs.Deed.{deed_of, deed_run}
use Rattle.tal_code.specs.Waiting.{waiting_at}
use Rattle.tal_table.specs.Places.{rest_at}
use Rattle.tal_table.specs.Seen.{seen}
use Rattle.tal_table.specs.Tables.{IsOf}
use Rattle.tal_table.specs.declared.node.Heading.{Heading}
use Rattle.tal_table.specs.declared.node.Node.{Node}
use Rattle.tal_table.specs.declared.node.Work.{Work}
use Rattle.tal_table.specs.declared.node.Work.TheVariants as work
use Rattle.gd_words.specs.declared.limits.TheConstants.{MOST_STATEMENTS}

-- what remains is found at the number that comes next in it
abbrev pub Finds : List (List Entry) → List Entry → Type 0
Finds places rest = rest_at places (next_number rest) ≡ rest

-- each of these is found at its number
abbrev pub FindsAll : List (List Entry) → List (List Entry) → Type 0
FindsAll places rests = (rest : List Entry) → IsAmong rest rests → Finds places rest

-- no number is above 2,000
abbrev pub AreSmall : List ℕ → Type 0
AreSmall numbers = (number : ℕ) → IsAmong number numbers → number ≤ MOST_STATEMENTS

-- fewer than 80 left sides wait at one time while any of these statements computes what it does
abbrev pub FewWait : List Statement → Type 0
FewWait statements = (statement : Statement) → IsAmong statement statements → waiting_at (out-What statement.what) < 80

-- the numbers of a statement and of what stands in it
abbrev pub numbers_at : Statement → List ℕ
numbers_at statement =
    numbers_before statement.what ++ (statement.number ∷ numbers_within statement.number statement.what)

-- a node of a procedure does what is done where this remains
pub record IsNode (places : List (List Entry)) (procedure : ℕ) (rest : List Entry) (node : Node) : Type 0 where
  pub deed : seen places node.work ≡ deed_of rest
  pub after : rest_at places node.after ≡ drop 1 rest
  pub own : node.procedure ≡ procedure

-- a node of one of these procedures does what is done where this remains of it
pub record IsNodeAmong (places : List (List Entry)) (procedures : List Procedure) (rest : List Entry) (node : Node) :
    Type 0 where
  pub deed : seen places node.work ≡ deed_of rest
  pub after : rest_at places node.after ≡ drop 1 rest
  pub own : IsOf procedures node.procedure rest

-- one node for each of what remains, and each is so
abbrev pub Each : (List Entry → Node → Type 0) → List (List Entry) → List Node → Type 0
Each is [] [] = Unit {0}
Each is (rest ∷ rests) (node ∷ nodes) = is rest node × Each is rests nodes
Each is [] (node ∷ nodes) = ⊥
Each is (rest ∷ rests) [] = ⊥

-- nodes of a procedure were put behind others: those of a part, which the entry of this number comes after
pub record Puts (old new : List Node) (procedure : ℕ) (part : List Entry → List (List Entry)) (after : ℕ) : Type 0 where
  pub made : List Node
  pub behind : new ≡ old ++ made
  pub are : (places : List (List Entry)) (rest : List Entry) → after ≡ next_number rest → Finds places rest
      → FindsAll places (part rest)
      → Each (IsNode places procedure) (part rest) made

-- what remains from each entry of a statement on, where others come after it
abbrev pub rests_at : Statement → List Entry → List (List Entry)
rests_at statement rest =
    rests_before statement.what (Run statement ∷ rest)
    ++ ((Run statement ∷ rest) ∷ rests_in statement.what statement rest)

-- the number that comes next where statements stand before an entry of this number
abbrev pub number_or : List Entry → ℕ → ℕ
number_or [] after = after
number_or (entry ∷ entries) after = entry_number entry

abbrev pub begins : List Statement → ℕ → ℕ
begins statements after = number_or (runs_of statements) after

-- the number of a statement's first entry: that of a DO's body, which is done before its test
abbrev pub first_number : Statement → ℕ
first_number statement = begins (body_before (out-What statement.what)) statement.number

-- a statement is an IF
abbrev pub IsIf : What-F What Statement → Type 0
IsIf (What-F.If test first second) = Unit {0}
IsIf _ = ⊥

-- a statement is a WHILE
abbrev pub IsWhile : What-F What Statement → Type 0
IsWhile (What-F.While test body) = Unit {0}
IsWhile _ = ⊥

-- a statement is a FOR
abbrev pub IsFor : What-F What Statement → Type 0
IsFor (What-F.For variable from to down step body last) = Unit {0}
IsFor _ = ⊥

-- a statement is a DO
abbrev pub IsDo : What-F What Statement → Type 0
IsDo (What-F.DoUntil body test) = Unit {0}
IsDo _ = ⊥

-- no others stand in a statement
abbrev pub IsAlone : What-F What Statement → Type 0
IsAlone (What-F.If test first second) = ⊥
IsAlone (What-F.While test body) = ⊥
IsAlone (What-F.For variable from to down step body last) = ⊥
IsAlone (What-F.DoUntil body test) = ⊥
IsAlone (What-F.Assign _ _) = Unit {0}
IsAlone (What-F.AssignCall _ _ _) = Unit {0}
IsAlone (What-F.Call _ _) = Unit {0}
IsAlone (What-F.Return _) = Unit {0}
IsAlone (What-F.ReadUpdate _ _ _) = Unit {0}
IsAlone (What-F.Reply _ _) = Unit {0}
IsAlone (What-F.WriteRead _ _ _ _ _) = Unit {0}
IsAlone (What-F.Checkpoint _ _) = Unit {0}
IsAlone What-F.CheckMonitor = Unit {0}
IsAlone (What-F.Open _) = Unit {0}
IsAlone What-F.Stop = Unit {0}

-- work is what is done at a statement in which no others stand, before an entry of this number
pub record IsLeaf (statement : Statement) (after : ℕ) (made : Work) : Type 0 where
  pub deed : (places : List (List Entry)) (rest : List Entry) → rest_at places after ≡ rest
      → seen places made ≡ deed_run rest statement (out-What statement.what)
  pub alone : (rest : List Entry) → rests_at statement rest ≡ (Run statement ∷ rest) ∷ []

-- what remains from each entry of procedures on
abbrev pub rests_all : List Procedure → List (List Entry)
rests_all procedures = flat_map (λ procedure. rests_of procedure.body) procedures

-- nodes stand behind the one for 0: those of some of these procedures
pub record Fills (procedures some : List Procedure) (nodes : List Node) : Type 0 where
  pub made : List Node
  pub behind : nodes ≡ record { procedure = 0; work = work.Return None; after = 0 } ∷ made
  pub are : (places : List (List Entry)) → Finds places [] → FindsAll places (rests_all procedures)
      → Each (IsNodeAmong places procedures) (rests_all some) made

-- the heading of a procedure
abbrev pub heading_of : Procedure → Heading
heading_of procedure = record { first = begins procedure.body 0; locals = length procedure.locals }
