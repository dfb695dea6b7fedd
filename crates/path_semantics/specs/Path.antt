-- Paths: the lists of statement numbers as MAIN may execute them from its first statement on.
use Rattle.std.specs.Prelude.{◌≡◌, ℕ, List, [], ◌∷◌, Option, Some, option_map}
use Rattle.gd_words.specs.Members.{IsAmong}
use Rattle.tal_tree.specs.declared.program.Program.{Program}
use Rattle.process_semantics.specs.Rests.{entry_number}
use Rattle.path_semantics.specs.Place.{Stand, next_entry, successors, first_stand}

-- the number of the next entry: its statement's, and for a FOR's test and last assignment one of their own; none where
-- the program has ended
abbrev pub number_at : Stand → Option ℕ
number_at stand = option_map entry_number (next_entry stand)

-- a step: the next entry has this number, and it leads there
pub record Steps (program : Program) (here : Stand) (number : ℕ) (there : Stand) : Type 0 where
  pub next : number_at here ≡ Some number
  pub leads : IsAmong there (successors program here)

-- a walk by these numbers: one step after the other
abbrev pub Walks : Program → Stand → List ℕ → Stand → Type 0
Walks program here [] there = here ≡ there
Walks program here (number ∷ path) there =
    (next : Stand) × Steps program here number next × Walks program next path there

-- a path leads to a stand: a walk by it from MAIN's start comes there
abbrev pub Leads : Program → List ℕ → Stand → Type 0
Leads program path stand = Walks program (first_stand program) path stand

-- a path of the program leads somewhere
abbrev pub IsPath : Program → List ℕ → Type 0
IsPath program path = (stand : Stand) × Leads program path stand
