-- A path that is walked without memory: each procedure in progress is told by a number.
use Rattle.std.specs.Prelude.{◌≡◌, ◌≢◌, ◌≤◌, ◌⊎◌, ℕ, ◌+◌, Bool, true, List, [], ◌∷◌, ◌++◌, length, min, slice_get}
use Rattle.std.specs.Prelude.{Option, Some, None}
use Rattle.std.specs.Option.{option_to_list}
use Rattle.gd_words.specs.Members.{IsAmong}
use Rattle.tal_tree.specs.declared.program.Program.{Program}
use Rattle.tal_tree.specs.declared.statement.Statement.{Statement}
use Rattle.process_semantics.specs.Remains.{leads_to}
use Rattle.process_semantics.specs.Rests.{next_number, rest_from}
use Rattle.process_semantics.specs.SeenEntries.{entry_of}
use Rattle.process_semantics.specs.State.{Entry, Run, Test, called_by}
use Rattle.path_semantics.specs.declared.dues.Dues.{Dues}
use Rattle.path_semantics.specs.declared.reason.Reason.{Reason}
use Rattle.path_semantics.specs.Break.{breaks_at}
use Rattle.path_semantics.specs.Path.{Leads, IsPath, number_at}
use Rattle.path_semantics.specs.Place.{Place, Stand, body_of, settled, ways, successors}
use Rattle.path_semantics.specs.Told.{statements_in, called_above}
use Rattle.discipline.specs.declared.find.Found.{Found}
use Rattle.discipline.specs.declared.stack.Position.{Position}
use Rattle.discipline.specs.declared.walker.Way.{Way}
use Rattle.discipline.specs.declared.walker.Way.TheVariants.{Onward, Into, End}
use Rattle.discipline.specs.declared.walker.Ways.{Ways}
use Rattle.discipline.specs.declared.walk.Walker.{Walker}
use Rattle.due_search.specs.reason_dues.specs.Amounts.{amount, most_of}

-- what remains in a procedure from a position on
abbrev pub rest_at : Program → Position → Option (List Entry)
rest_at program position = rest_from (statements_in (slice_get program.procedures position.procedure)) position.number

-- positions tell a place: each tells what remains in the procedure that the frame below has called, and there is room
-- for those above
abbrev pub Tells : Program → List Position → Place → Type 0
Tells program [] [] = Unit {0}
Tells program (position ∷ below) (frame ∷ callers) =
    (called_above program callers ≡ Some position.procedure) × (rest_at program position ≡ Some frame)
    × (position.procedure + length below ≤ program.main) × Tells program below callers
Tells program _ _ = ⊥

-- what is found at a position is the next entry there, and the number after it
abbrev pub IsNext : Program → Position → Option Found → Type 0
IsNext program position result = (entry : Entry) (rest : List Entry) → rest_at program position ≡ Some (entry ∷ rest)
    → (found : Found) × (result ≡ Some found) × (entry_of found.entry ≡ entry) × (found.after ≡ next_number rest)

-- a way tells a place to which an entry leads: on in its procedure at a number, into a procedure, or to the program's
-- end
abbrev pub LeadsBy : Program → Entry → List Entry → Place → Way → Place → Type 0
LeadsBy program entry rest callers (Onward number) place =
    (frame : List Entry) × (place ≡ frame ∷ callers) × (number ≡ next_number frame)
    × ((frame ≡ []) ⊎ IsAmong frame (leads_to entry rest))
LeadsBy program entry rest callers (Into procedure) place =
    (place ≡ body_of program procedure ∷ (entry ∷ rest) ∷ callers) × (called_by (entry ∷ rest) ≡ Some procedure)
LeadsBy program entry rest callers End place = place ≡ []

-- each way tells the place of its place in the list
abbrev pub EachLeads : Program → Entry → List Entry → Place → List Way → List Place → Type 0
EachLeads program entry rest callers [] [] = Unit {0}
EachLeads program entry rest callers (way ∷ more) (place ∷ places) =
    LeadsBy program entry rest callers way place × EachLeads program entry rest callers more places
EachLeads program entry rest callers _ _ = ⊥

abbrev pub listed : Ways → List Way
listed ways = ways.first ∷ option_to_list ways.second

-- the ways of an entry, whatever comes after it with this number
abbrev pub AreWays : Found → Ways → Type 0
AreWays found all = (program : Program) (rest : List Entry) (callers : Place) → found.after ≡ next_number rest
    → EachLeads program (entry_of found.entry) rest callers (listed all)
    (ways program (entry_of found.entry) rest callers)

-- those of a statement, and those of a FOR's test
abbrev pub AreRunWays : Statement → ℕ → Ways → Type 0
AreRunWays statement after all = (program : Program) (rest : List Entry) (callers : Place) → after ≡ next_number rest
    → EachLeads program (Run statement) rest callers (listed all) (ways program (Run statement) rest callers)

abbrev pub AreTestWays : Statement → ℕ → Ways → Type 0
AreTestWays statement after all = (program : Program) (rest : List Entry) (callers : Place) → after ≡ next_number rest
    → EachLeads program (Test statement) rest callers (listed all) (ways program (Test statement) rest callers)

-- positions and how much is due, cut at what breaks, tell a stand
pub record IsAt (program : Program) (reason : Reason) (positions : List Position) (due : ℕ) (stand : Stand) :
    Type 0 where
  pub tells : Tells program positions stand.place
  pub cut : due ≡ min (most_of program reason) (amount reason stand.dues)

-- the same for the place that is come to from any that the positions tell
abbrev pub IsSettled : Program → Reason → List Position → ℕ → List Position → ℕ → Type 0
IsSettled program reason positions due new new_due = (place : Place) (dues : Dues) → Tells program positions place
    → due ≡ min (most_of program reason) (amount reason dues)
    → IsAt program reason new new_due (settled dues place)

-- what other positions tell comes to the same stand as these
abbrev pub KeepsSettled : Program → Reason → List Position → ℕ → List Position → ℕ → Type 0
KeepsSettled program reason positions due new new_due = (place : Place) (dues : Dues) → Tells program positions place
    → due ≡ min (most_of program reason) (amount reason dues)
    → (later : Place) × (more : Dues) × Tells program new later
    × (new_due ≡ min (most_of program reason) (amount reason more)) × (settled more later ≡ settled dues place)

-- the same for the place to which a way leads
abbrev pub HasGone : Program → Reason → List Position → Way → ℕ → List Position → ℕ → Type 0
HasGone program reason positions way due new new_due =
    (entry : Entry) (rest : List Entry) (callers place : Place) (dues : Dues)
    → Tells program positions ((entry ∷ rest) ∷ callers)
    → LeadsBy program entry rest callers way place → due ≡ min (most_of program reason) (amount reason dues)
    → IsAt program reason new new_due (settled dues place)

-- whether a number comes next where the positions tell
abbrev pub TellsNext : Program → List Position → ℕ → Bool → Type 0
TellsNext program positions number result = (stand : Stand) → Tells program positions stand.place
    → (result ≡ true → number_at stand ≡ Some number) × (number_at stand ≡ Some number → result ≡ true)

-- the same in whatever program
abbrev pub TellsNextIn : List Position → ℕ → Bool → Type 0
TellsNextIn positions number result = (program : Program) → TellsNext program positions number result

-- a step to where this number comes next, if there is one
abbrev pub IsStep : Program → Reason → List Position → ℕ → ℕ → Option Walker → Type 0
IsStep program reason positions due number None =
    (stand there : Stand) → IsAt program reason positions due stand → IsAmong there (successors program stand)
    → number_at there ≡ Some number → ⊥
IsStep program reason positions due number (Some walker) =
    (stand : Stand) (own : ℕ) → IsAt program reason positions due stand → number_at stand ≡ Some own
    → (there : Stand) × IsAmong there (successors program stand) × (number_at there ≡ Some number)
    × IsAt program reason walker.stack walker.due there

-- a path leads to its last number, and the walker is there
pub record HasWalked (program : Program) (reason : Reason) (path : List ℕ) (walker : Walker) : Type 0 where
  pub front : List ℕ
  pub number : ℕ
  pub stand : Stand
  pub split : path ≡ front ++ number ∷ []
  pub leads : Leads program front stand
  pub next : number_at stand ≡ Some number
  pub at : IsAt program reason walker.stack walker.due stand

-- a walk by a path that isn't empty; there is none where it is no path
abbrev pub IsWalk : Program → Reason → List ℕ → Option Walker → Type 0
IsWalk program reason path None = path ≢ [] → IsPath program path → ⊥
IsWalk program reason path (Some walker) = HasWalked program reason path walker

-- whether what comes next breaks, where something comes next
abbrev pub BreaksNext : Program → Reason → List Position → ℕ → Bool → Type 0
BreaksNext program reason positions due result = (stand : Stand) (own : ℕ) → IsAt program reason positions due stand
    → number_at stand ≡ Some own → result ≡ breaks_at program reason stand
