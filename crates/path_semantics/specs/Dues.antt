-- What is due: what a program may have changed or done since its last CHECKPOINT, and a takeover would lose.
use Rattle.std.specs.Prelude.{ℕ, Bool, true, false, ◌||◌, List, [], ◌∷◌, ◌++◌, flat_map, Option, Some}
use Rattle.tal_tree.specs.declared.expression.Spot.{Spot, Local, Simple, Element}
use Rattle.tal_tree.specs.declared.expression.Variable.{Variable}
use Rattle.tal_tree.specs.declared.expression.Variable.TheVariants as variable
use Rattle.tal_tree.specs.declared.statement.Statement.{Statement}
use Rattle.tal_tree.specs.declared.statement.What.{What, What-F, out-What}
use Rattle.process_semantics.specs.State.{Entry, Run, Test, Last}
use Rattle.path_semantics.specs.declared.dues.Dues.{Dues}

-- nothing is due at MAIN's start and after each CHECKPOINT, whatever it names
abbrev pub no_dues : Dues
no_dues = record { globals = []; asked = []; read = false }

-- the dues where these globals too may have changed
abbrev pub with_changed : List ℕ → Dues → Dues
with_changed globals dues = record dues { globals = dues.globals ++ globals }

-- the global that a target is or in which it is an element; a local is none
abbrev pub global_of_spot : Spot → List ℕ
global_of_spot (Local local) = []
global_of_spot (Simple item) = item ∷ []
global_of_spot (Element item index) = item ∷ []

-- the global that a simple variable is; a local is none
abbrev pub global_of : Variable → List ℕ
global_of (variable.Local local) = []
global_of (variable.Simple item) = item ∷ []

-- the globals that a statement may change in its own step: the target of an assignment, the variable of a FOR, and the
-- buffer and the count of READUPDATE and WRITEREAD
abbrev pub changed_by : What-F What Statement → List ℕ
changed_by (What-F.Assign to value) = global_of_spot to
changed_by (What-F.For variable from to down step body last) = global_of variable
changed_by (What-F.ReadUpdate buffer most got) = buffer ∷ global_of got
changed_by (What-F.WriteRead file buffer send room got) = buffer ∷ global_of got
changed_by (What-F.AssignCall _ _ _) = []
changed_by (What-F.If _ _ _) = []
changed_by (What-F.While _ _) = []
changed_by (What-F.DoUntil _ _) = []
changed_by (What-F.Call _ _) = []
changed_by (What-F.Return _) = []
changed_by (What-F.Reply _ _) = []
changed_by (What-F.Checkpoint _ _) = []
changed_by What-F.CheckMonitor = []
changed_by (What-F.Open _) = []
changed_by What-F.Stop = []

-- the file that a WRITEREAD asks
abbrev pub asked_by : What-F What Statement → List ℕ
asked_by (What-F.WriteRead file buffer send room got) = file ∷ []
asked_by (What-F.Assign _ _) = []
asked_by (What-F.AssignCall _ _ _) = []
asked_by (What-F.If _ _ _) = []
asked_by (What-F.While _ _) = []
asked_by (What-F.DoUntil _ _) = []
asked_by (What-F.For _ _ _ _ _ _ _) = []
asked_by (What-F.Call _ _) = []
asked_by (What-F.Return _) = []
asked_by (What-F.ReadUpdate _ _ _) = []
asked_by (What-F.Reply _ _) = []
asked_by (What-F.Checkpoint _ _) = []
asked_by What-F.CheckMonitor = []
asked_by (What-F.Open _) = []
asked_by What-F.Stop = []

-- whether a statement reads a request
abbrev pub reads : What-F What Statement → Bool
reads (What-F.ReadUpdate buffer most got) = true
reads (What-F.Assign _ _) = false
reads (What-F.AssignCall _ _ _) = false
reads (What-F.If _ _ _) = false
reads (What-F.While _ _) = false
reads (What-F.DoUntil _ _) = false
reads (What-F.For _ _ _ _ _ _ _) = false
reads (What-F.Call _ _) = false
reads (What-F.Return _) = false
reads (What-F.Reply _ _) = false
reads (What-F.WriteRead _ _ _ _ _) = false
reads (What-F.Checkpoint _ _) = false
reads What-F.CheckMonitor = false
reads (What-F.Open _) = false
reads What-F.Stop = false

-- the dues before a statement with what the statement adds
abbrev pub with_effects : Dues → What-F What Statement → Dues
with_effects dues what = record {
  globals = dues.globals ++ changed_by what;
  asked = dues.asked ++ asked_by what;
  read = dues.read || reads what;
}

-- the dues after a statement's own step: none after a CHECKPOINT, and else those before it with what the statement adds
abbrev pub after_statement : Dues → What-F What Statement → Dues
after_statement dues (What-F.Checkpoint items files) = no_dues
after_statement dues (What-F.Assign to value) = with_effects dues (What-F.Assign to value)
after_statement dues (What-F.AssignCall to procedure arguments) =
    with_effects dues (What-F.AssignCall to procedure arguments)
after_statement dues (What-F.If test first second) = with_effects dues (What-F.If test first second)
after_statement dues (What-F.While test body) = with_effects dues (What-F.While test body)
after_statement dues (What-F.DoUntil body test) = with_effects dues (What-F.DoUntil body test)
after_statement dues (What-F.For variable from to down step body last) = with_effects dues (What-F.For variable from to
    down step body last)
after_statement dues (What-F.Call procedure arguments) = with_effects dues (What-F.Call procedure arguments)
after_statement dues (What-F.Return value) = with_effects dues (What-F.Return value)
after_statement dues (What-F.ReadUpdate buffer most got) = with_effects dues (What-F.ReadUpdate buffer most got)
after_statement dues (What-F.Reply buffer count) = with_effects dues (What-F.Reply buffer count)
after_statement dues (What-F.WriteRead file buffer send room got) =
    with_effects dues (What-F.WriteRead file buffer send room got)
after_statement dues What-F.CheckMonitor = with_effects dues What-F.CheckMonitor
after_statement dues (What-F.Open file) = with_effects dues (What-F.Open file)
after_statement dues What-F.Stop = with_effects dues What-F.Stop

-- the dues after an entry: a FOR's test changes nothing, and its last assignment its variable
abbrev pub after_entry : Dues → Entry → Dues
after_entry dues (Run statement) = after_statement dues (out-What statement.what)
after_entry dues (Test statement) = dues
after_entry dues (Last statement) = with_changed (changed_by (out-What statement.what)) dues

abbrev pub target_of : What-F What Statement → List ℕ
target_of (What-F.AssignCall to procedure arguments) = global_of_spot to
target_of (What-F.Assign _ _) = []
target_of (What-F.If _ _ _) = []
target_of (What-F.While _ _) = []
target_of (What-F.DoUntil _ _) = []
target_of (What-F.For _ _ _ _ _ _ _) = []
target_of (What-F.Call _ _) = []
target_of (What-F.Return _) = []
target_of (What-F.ReadUpdate _ _ _) = []
target_of (What-F.Reply _ _) = []
target_of (What-F.WriteRead _ _ _ _ _) = []
target_of (What-F.Checkpoint _ _) = []
target_of What-F.CheckMonitor = []
target_of (What-F.Open _) = []
target_of What-F.Stop = []

-- the global that may change when a call returns: the target of `x := f(..)`, where the call is the next entry of its
-- frame
abbrev pub changed_by_return : Option Entry → List ℕ
changed_by_return (Some (Run statement)) = target_of (out-What statement.what)
changed_by_return _ = []

-- the targets of calls
abbrev pub targets_of : List Entry → List ℕ
targets_of calls = flat_map (λ call. changed_by_return (Some call)) calls
