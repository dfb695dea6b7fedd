-- What may remain in a procedure that runs, and where an entry leads within it.
use Rattle.std.specs.Prelude.{◌≡◌, ◌⊎◌, List, [], ◌∷◌, ◌++◌}
use Rattle.tal_values.specs.gd_words.specs.Members.{IsAmong}
use Rattle.tal_values.specs.tal_tree.specs.declared.statement.Statement.{Statement}
use Rattle.tal_values.specs.tal_tree.specs.declared.statement.What.{What, What-F, out-What}
use Rattle.process_semantics.specs.State.{Entry, Run, Test, Last, runs_of}
use Rattle.process_semantics.specs.Rests.{rests_of}

-- nothing remains of a body, or what remains from one of its entries on
abbrev pub Remains : List Statement → List Entry → Type 0
Remains body rest = (rest ≡ []) ⊎ IsAmong rest (rests_of body)

-- the ways into a statement, if others come after it: either branch of an IF, the body of a WHILE or of a DO and then
-- its test again, the test of a FOR
abbrev pub ways_into : Statement → List Entry → What-F What Statement → List (List Entry)
ways_into self after (What-F.If test first second) = (runs_of first ++ after) ∷ (runs_of second ++ after) ∷ []
ways_into self after (What-F.While test body) = (runs_of body ++ Run self ∷ after) ∷ []
ways_into self after (What-F.For variable from to down step body last) = (Test self ∷ after) ∷ []
ways_into self after (What-F.DoUntil body test) = (runs_of body ++ Run self ∷ after) ∷ []
ways_into self after (What-F.Assign _ _) = []
ways_into self after (What-F.AssignCall _ _ _) = []
ways_into self after (What-F.Call _ _) = []
ways_into self after (What-F.Return _) = []
ways_into self after (What-F.ReadUpdate _ _ _) = []
ways_into self after (What-F.Reply _ _) = []
ways_into self after (What-F.WriteRead _ _ _ _ _) = []
ways_into self after (What-F.Checkpoint _ _) = []
ways_into self after What-F.CheckMonitor = []
ways_into self after (What-F.Open _) = []
ways_into self after What-F.Stop = []

-- the way of one more round of a FOR: its body, its last assignment, and its test again
abbrev pub ways_round : Statement → List Entry → What-F What Statement → List (List Entry)
ways_round self after (What-F.For variable from to down step body last) = (runs_of body ++ Last self ∷ Test self ∷
    after) ∷ []
ways_round self after (What-F.Assign _ _) = []
ways_round self after (What-F.AssignCall _ _ _) = []
ways_round self after (What-F.If _ _ _) = []
ways_round self after (What-F.While _ _) = []
ways_round self after (What-F.DoUntil _ _) = []
ways_round self after (What-F.Call _ _) = []
ways_round self after (What-F.Return _) = []
ways_round self after (What-F.ReadUpdate _ _ _) = []
ways_round self after (What-F.Reply _ _) = []
ways_round self after (What-F.WriteRead _ _ _ _ _) = []
ways_round self after (What-F.Checkpoint _ _) = []
ways_round self after What-F.CheckMonitor = []
ways_round self after (What-F.Open _) = []
ways_round self after What-F.Stop = []

-- where an entry leads within its procedure: to what comes after it, or into it
abbrev pub leads_to : Entry → List Entry → List (List Entry)
leads_to (Run statement) after = after ∷ ways_into statement after (out-What statement.what)
leads_to (Test statement) after = after ∷ ways_round statement after (out-What statement.what)
leads_to (Last statement) after = after ∷ []

-- what a body comes to, whatever its tests say: the whole body, and where the next entry of what it comes to leads
pub data ComesTo (body : List Statement) : List Entry → Type 0 where
  whole : ComesTo body (runs_of body)
  onward : {entry : Entry} {rest way : List Entry} → ComesTo body (entry ∷ rest) → IsAmong way (leads_to entry rest)
      → ComesTo body way
