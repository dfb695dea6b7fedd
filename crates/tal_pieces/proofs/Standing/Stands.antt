-- Statements of a tree that keep the rules where they stand: at a level, after what stands before them and before what
-- stands after them. The names of the program stand in the scope for what they name in the tree, and no token stands
-- deeper than 33 levels.
use Rattle.std.specs.Prelude.{◌≡◌, ◌≤◌, ℕ, ◌+◌, suc, nat_lt, nat_le, ◌&&◌, ◌||◌, Bool, true, false, ℤ, pos, int_lt}
use Rattle.std.specs.Prelude.{List, []}
use Rattle.std.specs.Prelude.{◌∷◌, length, take, slice_get, Option, Some, None}
use Rattle.tal_tree.specs.declared.expression.Cond.{Cond}
use Rattle.tal_tree.specs.declared.expression.Expr.{Expr}
use Rattle.tal_tree.specs.declared.expression.Spot.{Spot}
use Rattle.tal_tree.specs.declared.expression.Variable.{Variable}
use Rattle.tal_tree.specs.declared.expression.Variable.TheVariants as variable
use Rattle.tal_tree.specs.declared.program.FileUse.{FileUse}
use Rattle.tal_tree.specs.declared.program.Program.{Program}
use Rattle.tal_tree.specs.declared.statement.Statement.{Statement}
use Rattle.tal_tree.specs.declared.statement.What.{What}
use Rattle.tal_tree.specs.declared.statement.What.TheVariants as what
use Rattle.tal_names.specs.declared.meaning.Meaning.{Meaning}
use Rattle.tal_names.specs.declared.meaning.Meaning.TheVariants as m
use Rattle.tal_declarations.specs.declared.table.Files.{Files}
use Rattle.tal_names.specs.declared.scope.Scope.{Scope}
use Rattle.tal_rules.specs.declared.walk.Stage.TheVariants as stage
use Rattle.tal_rules.specs.declared.walk.Walk.{Walk}
use Rattle.tal_rules.specs.Calls.{is_depth}
use Rattle.tal_names.specs.Systems.{system_of}
use Rattle.tal_names.specs.Names.{Declarations, is_declared, meaning_in, with_name}
use Rattle.tal_names.specs.Scopes.{meaning_of}
use Rattle.tal_rules.specs.Statements.{next_number, next_file, next_walk, inside_do}
use Rattle.tal_pieces.specs.declared.rank.TestRank.TheVariants as test
use Rattle.tal_pieces.specs.declared.rank.ValueRank.TheVariants as value
use Rattle.tal_pieces.proofs.Values.Depths.{value_depth, spot_depth}
use Rattle.tal_pieces.specs.Printed.Names.{item_name, procedure_name, file_name, receive_name}
use Rattle.tal_tree.specs.Targets.{is_receive}
use Rattle.tal_pieces.proofs.Values.ReadsBack.{StandsFor, IsNamed, IsNamedSpot}
use Rattle.tal_pieces.proofs.Values.TestDepths.{test_depth}
use Rattle.tal_pieces.proofs.Values.TestsReadBack.{IsNamedTest}
use Rattle.tal_pieces.proofs.Values.ValueLists.{AllNamed, values_depth}
use Rattle.tal_faultless.proofs.Files.FileMeanings.{file_meaning}

-- the variables of the first files
abbrev pub first_files : Files → ℕ → Files
first_files f n = record { names = take n f.names; uses = take n f.uses }

-- no further statement has a number past the limit
abbrev pub IsCounted : Walk → Type 0
IsCounted w = nat_lt 2000 w.number ≡ false

-- an item whose name CHECKPOINT may hold
pub data IsItem (item : ℕ) : Option Meaning → Type 0 where
  simple : IsItem item (Some (m.Simple item))
  array : IsItem item (Some (m.Array item))

module _ (p : Program) (locals : List (List ℕ)) (s : Scope) where
  abbrev pub IsNamedVariable : Variable → Type 0
  IsNamedVariable (variable.Local place) = StandsFor s (slice_get locals place) (m.Local place)
  IsNamedVariable (variable.Simple item) = StandsFor s (item_name p item) (m.Simple item)

  abbrev pub IsNamedArray : ℕ → Type 0
  IsNamedArray item = StandsFor s (item_name p item) (m.Array item)

  -- a value, a condition, a target and the values of a call whose names are there, at a level
  pub record FitsValue (n : ℕ) (e : Expr) : Type 0 where
    pub named : IsNamed p locals s e
    pub low : n + value_depth value.Sum e ≤ 33

  pub record FitsTest (n : ℕ) (c : Cond) : Type 0 where
    pub named : IsNamedTest p locals s c
    pub low : n + test_depth test.Or c ≤ 33

  pub record FitsSpot (n : ℕ) (x : Spot) : Type 0 where
    pub named : IsNamedSpot p locals s x
    pub low : n + spot_depth x ≤ 33

  abbrev pub FitsArguments : ℕ → List Expr → Type 0
  FitsArguments n [] = n ≤ 33
  FitsArguments n (e ∷ rest) = AllNamed p locals s (e ∷ rest) × (suc n + values_depth (e ∷ rest) ≤ 33)

  -- a procedure that may be called with so many values
  pub record IsCallable (number : ℕ) (gives : Bool) (count : ℕ) : Type 0 where
    pub name : List ℕ
    pub named : procedure_name p number ≡ Some name
    pub means : meaning_of s name ≡ Some (m.Procedure number gives count)
    pub free : system_of name ≡ None
    pub before : nat_le s.number number ≡ false

  -- the names of a CHECKPOINT: none of them stands before
  pub data Mentions : Declarations → List ℕ → List ℕ → Type 0 where
    none : {before : Declarations} → Mentions before [] []
    file : {before : Declarations} {number : ℕ} {files : List ℕ} (item : ℕ) (name : List ℕ)
        → file_name p number ≡ Some name
        → meaning_of s name ≡ Some (m.ProcessFile item number) → is_declared name before ≡ false
        → Mentions (with_name before name (m.Literal (pos 0))) [] files → Mentions before [] (number ∷ files)
    item : {before : Declarations} {number : ℕ} {items files : List ℕ} (name : List ℕ) → item_name p number ≡ Some name
        → IsItem number (meaning_of s name) → is_declared name before ≡ false
        → Mentions (with_name before name (m.Literal (pos 0))) items files → Mentions before (number ∷ items) files

  -- a statement with no statement inside that isn't of the prologue. Its tokens stand at level n + 1, and those in a
  -- list one deeper
  pub data Lone (n : ℕ) : What → Type 0 where
    assigns : {to : Spot} {e : Expr} → FitsSpot (suc n) to → FitsValue (suc n) e → Lone n (what.Assign to e)
    assigns_call : {to : Spot} {number : ℕ} {es : List Expr} → FitsSpot (suc n) to → IsCallable number true (length es)
        → FitsArguments (suc n) es → Lone n (what.AssignCall to number es)
    calls : {number : ℕ} {es : List Expr} (gives : Bool) → IsCallable number gives (length es)
        → FitsArguments (suc n) es
        → Lone n (what.Call number es)
    returns : s.gives ≡ false → suc n ≤ 33 → Lone n (what.Return None)
    gives : {e : Expr} → s.gives ≡ true → FitsValue (suc n) e → Lone n (what.Return (Some e))
    reads : {buffer : ℕ} {most : Expr} {got : Variable} (item number : ℕ)
        → StandsFor s (receive_name p) (m.ReceiveFile item number)
        → IsNamedArray buffer → FitsValue (suc (suc n)) most → IsNamedVariable got
        → Lone n (what.ReadUpdate buffer most got)
    replies : {buffer : ℕ} {count : Expr} → IsNamedArray buffer → FitsValue (suc (suc n)) count
        → Lone n (what.Reply buffer count)
    asks : {file buffer : ℕ} {send room : Expr} {got : Variable} (item : ℕ)
        → StandsFor s (file_name p file) (m.ProcessFile item file)
        → IsNamedArray buffer → FitsValue (suc (suc n)) send → FitsValue (suc (suc n)) room → IsNamedVariable got
        → Lone n (what.WriteRead file buffer send room got)
    keeps_nothing : suc n ≤ 33 → Lone n (what.Checkpoint [] [])
    keeps : {items files : List ℕ} → suc (suc n) ≤ 33 → Mentions [] items files → Lone n (what.Checkpoint items files)
    stops : suc n ≤ 33 → Lone n what.Stop

  -- an OPEN in the prologue: the next of the program's files, whose variable is a simple global of its own
  pub record Opens (f : Files) (w : Walk) (file : ℕ) : Type 0 where
    pub opened : FileUse
    pub name : List ℕ
    pub next : file ≡ w.files
    pub few : nat_le 8 w.files ≡ false
    pub ready : w.stage ≡ stage.Opens
    pub there : slice_get p.files file ≡ Some opened
    pub used : slice_get f.uses file ≡ Some opened
    pub listed : slice_get f.names file ≡ Some (name, file_meaning opened.target opened.item file)
    pub first : is_declared name (take file f.names) ≡ false
    pub named : item_name p opened.item ≡ Some name
    pub means : meaning_of s name ≡ Some (file_meaning opened.target opened.item file)
    pub global : meaning_in name s.globals ≡ Some (m.Simple opened.item)
    pub unhidden : is_declared name s.locals ≡ false
    pub depth : is_depth (is_receive opened.target) (pos opened.depth) ≡ true
    pub alone : (w.receive && is_receive opened.target) ≡ false

  module _ (f : Files) where
    mutual
      -- a statement with its number, which stands within n levels
      pub data Stands : ℕ → Walk → Statement → Walk → Type 0 where
        lone : {n : ℕ} {w : Walk} {line : ℕ} {x : What} → IsCounted w → Lone n x
            → Stands n w (record { number = w.number; line = line; what = x }) (next_walk w)
        monitors : {n : ℕ} {w : Walk} {line : ℕ} → IsCounted w → suc n ≤ 33 → w.stage ≡ stage.Start
            → Stands n w (record { number = w.number; line = line; what = what.CheckMonitor })
            (record w { number = next_number w.number; stage = stage.Opens })
        opens : {n : ℕ} {w : Walk} {line file : ℕ} → IsCounted w → suc (suc n) ≤ 33 → (o : Opens f w file)
            → Stands n w (record { number = w.number; line = line; what = what.Open file })
            (record {
              number = next_number w.number;
              stage = stage.Opens;
              files = next_file w.files;
              receive = w.receive || is_receive o.opened.target;
            })
        tests : {n : ℕ} {w v u : Walk} {line : ℕ} {c : Cond} {yes no : List Statement} → IsCounted w
            → FitsTest (suc n) c
            → StandsIn (suc n) (next_walk w) yes v → StandsIn (suc n) v no u
            → Stands n w (record { number = w.number; line = line; what = what.If c yes no }) u
        loops : {n : ℕ} {w v : Walk} {line : ℕ} {c : Cond} {body : List Statement} → IsCounted w → FitsTest (suc n) c
            → StandsIn (suc n) (next_walk w) body v
            → Stands n w (record { number = w.number; line = line; what = what.While c body }) v
        counts : {n : ℕ} {w v : Walk} {line : ℕ} {x : Variable} {from to : Expr} {down : Bool} {step : ℤ}
            {body : List Statement}
            → IsNamedVariable x
            → FitsValue (suc n) from → FitsValue (suc n) to → int_lt step (pos 1) ≡ false
            → StandsIn (suc n) (next_walk (next_walk w)) body v
            → IsCounted v
            → Stands n w (record { number = w.number; line = line; what = what.For x from to down step body v.number })
            (next_walk v)
        repeats : {n : ℕ} {w v : Walk} {line : ℕ} {body : List Statement} {c : Cond} → FitsTest (suc n) c
            → StandsIn (suc n) (inside_do w) body v → IsCounted v
            → Stands n w (record { number = v.number; line = line; what = what.DoUntil body c }) (next_walk v)

      -- statements in the place of one
      pub data StandsIn : ℕ → Walk → List Statement → Walk → Type 0 where
        empty : {n : ℕ} {w : Walk} → StandsIn n w [] w
        one : {n : ℕ} {w v : Walk} {x : Statement} → Stands n w x v → StandsIn n w (x ∷ []) v
        several : {n : ℕ} {w v : Walk} {x y : Statement} {rest : List Statement} → suc n ≤ 33
            → Row (suc n) w (x ∷ y ∷ rest) v
            → StandsIn n w (x ∷ y ∷ rest) v

      -- statements in a row
      pub data Row : ℕ → Walk → List Statement → Walk → Type 0 where
        ended : {n : ℕ} {w : Walk} → Row n w [] w
        goes_on : {n : ℕ} {w v u : Walk} {x : Statement} {rest : List Statement} → Stands n w x v → Row n v rest u
            → Row n w (x ∷ rest) u
