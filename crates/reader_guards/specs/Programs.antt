-- What texts of one procedure read as, and places in a text.
use Rattle.std.specs.Prelude.{ℕ, false, List, [], ◌∷◌, codes}
use Rattle.tal_tree.specs.declared.place.Place.{Place}
use Rattle.tal_tree.specs.declared.program.Program.{Program}
use Rattle.tal_tree.specs.declared.program.Shape.TheVariants.{Simple}
use Rattle.tal_tree.specs.declared.statement.Statement.{Statement}
use Rattle.tal_tree.specs.declared.statement.What.{What}
use Rattle.tal_tree.specs.declared.statement.What.TheVariants as what

abbrev pub numbered : ℕ → ℕ → What → List Statement
numbered number line it = record { number = number; line = line; what = it } ∷ []

-- the program of such a text, by what its statement stands for
abbrev pub main_of : List Statement → Program
main_of more = record {
  items = record { name = codes "I"; shape = Simple } ∷ [];
  files = [];
  procedures = record {
    name = codes "P";
    gives = false;
    parameters = 0;
    locals = [];
    body = record { number = 1; line = 1; what = what.CheckMonitor } ∷ more;
  } ∷ [];
  main = 0;
}

abbrev pub place : ℕ → ℕ → Place
place line column = record { line = line; column = column }
