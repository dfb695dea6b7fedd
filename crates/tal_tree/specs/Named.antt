-- What the expressions of a procedure name is there, and is of its kind.
use Rattle.std.specs.Prelude.{◌≡◌, ◌<◌, ℕ, ℤ, List, [], ◌∷◌, slice_get, Some}
use Rattle.tal_tree.specs.declared.expression.Cond.{Cond, Truth, Compare, Not', And', Or', Row_of-Cond, end_of-Cond}
use Rattle.tal_tree.specs.declared.expression.Cond.{more_of-Cond}
use Rattle.tal_tree.specs.declared.expression.Expr.{Expr, Number, Read', Minus', Two', Row_of-Spot, end_of-Spot}
use Rattle.tal_tree.specs.declared.expression.Expr.{more_of-Spot, Row_of-Expr, end_of-Expr, more_of-Expr}
use Rattle.tal_tree.specs.declared.expression.Spot.{Spot, Local, Simple, Element}
use Rattle.tal_tree.specs.declared.expression.Variable.{Variable}
use Rattle.tal_tree.specs.declared.expression.Variable.TheVariants as variable
use Rattle.tal_tree.specs.declared.program.FileUse.{FileUse}
use Rattle.tal_tree.specs.declared.program.Program.{Program}
use Rattle.tal_tree.specs.declared.program.Shape.TheVariants as shape
use Rattle.tal_tree.specs.declared.program.Target.TheVariants as target

-- the item at a place is there and is simple
pub record IsSimple (program : Program) (k : ℕ) : Type 0 where
  pub name : List ℕ
  pub there : slice_get program.items k ≡ Some (record { name = name; shape = shape.Simple })

-- the item at a place is there and is an array
pub record IsArray (program : Program) (k : ℕ) : Type 0 where
  pub name : List ℕ
  pub low : ℤ
  pub high : ℤ
  pub there : slice_get program.items k ≡ Some (record { name = name; shape = shape.Array low high })

-- the file of a number is there and is opened to a process
pub record IsProcess (program : Program) (k : ℕ) : Type 0 where
  pub opened : FileUse
  pub process : List ℕ
  pub there : slice_get program.files k ≡ Some opened
  pub is : opened.target ≡ target.Process process

-- in a procedure of so many locals
module _ (program : Program) (locals : ℕ) where
  -- a variable is one of the locals or a simple item
  abbrev pub IsVariableThere : Variable → Type 0
  IsVariableThere (variable.Local place) = place < locals
  IsVariableThere (variable.Simple item) = IsSimple program item

  abbrev mutual
    -- what is read in an expression is there
    pub IsThere : Expr → Type 0
    IsThere (Number n) = Unit {0}
    IsThere (Read' _ row) = IsSpotThereIn row
    IsThere (Minus' _ row) = IsThereIn row
    IsThere (Two' o _ left _ right) = IsThereIn left × IsThereIn right

    -- a place is one of the locals, a simple item, or an element of an array by an index whose parts are there
    pub IsSpotThere : Spot → Type 0
    IsSpotThere (Local place) = place < locals
    IsSpotThere (Simple item) = IsSimple program item
    IsSpotThere (Element item index) = IsArray program item × IsThere index

    pub IsSpotThereIn : {n : _} → Row_of-Spot n → Type 0
    IsSpotThereIn end_of-Spot = Unit {0}
    IsSpotThereIn (more_of-Spot spot _) = IsSpotThere spot

    pub IsThereIn : {n : _} → Row_of-Expr n → Type 0
    IsThereIn end_of-Expr = Unit {0}
    IsThereIn (more_of-Expr expr _) = IsThere expr

  abbrev mutual
    -- what is read in a condition is there
    pub IsTestThere : Cond → Type 0
    IsTestThere (Truth e) = IsThere e
    IsTestThere (Compare o left right) = IsThere left × IsThere right
    IsTestThere (Not' _ row) = IsTestThereIn row
    IsTestThere (And' _ left _ right) = IsTestThereIn left × IsTestThereIn right
    IsTestThere (Or' _ left _ right) = IsTestThereIn left × IsTestThereIn right

    pub IsTestThereIn : {n : _} → Row_of-Cond n → Type 0
    IsTestThereIn end_of-Cond = Unit {0}
    IsTestThereIn (more_of-Cond cond _) = IsTestThere cond

  -- what is read in each of these is there
  abbrev pub AllThere : List Expr → Type 0
  AllThere [] = Unit {0}
  AllThere (e ∷ rest) = IsThere e × AllThere rest
