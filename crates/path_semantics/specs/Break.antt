-- What breaks the discipline: the last statement of a path, with the dues before it. Sync depth and the data of a
-- checkpoint are GUARDIAN's; these exact rules are our own.
use Rattle.std.specs.Prelude.{◌≡◌, ℕ, ◌==◌, Bool, true, false, not, ◌&&◌, nat_le, IsTrue, List, [], ◌∷◌, ◌++◌, count_by}
use Rattle.std.specs.Prelude.{slice_get, Option, Some, None}
use Rattle.gd_words.specs.Members.{is_among}
use Rattle.tal_tree.specs.declared.program.FileUse.{FileUse}
use Rattle.tal_tree.specs.declared.program.Program.{Program}
use Rattle.tal_tree.specs.declared.statement.Statement.{Statement}
use Rattle.tal_tree.specs.declared.statement.What.{What, What-F, out-What}
use Rattle.process_semantics.specs.State.{Entry, Run}
use Rattle.path_semantics.specs.declared.reason.Reason.{Reason}
use Rattle.path_semantics.specs.declared.reason.Reason.TheVariants.{Data, SyncBlock, Input, Depth}
use Rattle.path_semantics.specs.declared.dues.Dues.{Dues}
use Rattle.path_semantics.specs.Dues.{asked_by}
use Rattle.path_semantics.specs.Place.{Stand, next_entry}
use Rattle.path_semantics.specs.Path.{Leads, number_at}

-- how many WRITEREADs on a file are due
abbrev pub asked_count : ℕ → Dues → ℕ
asked_count file dues = count_by (λ asked. asked == file) dues.asked

abbrev pub is_reached : Option FileUse → ℕ → Bool
is_reached None count = false
is_reached (Some file) count = nat_le file.depth count

-- Data: a CHECKPOINT that doesn't name a global
abbrev pub omits_item : ℕ → What-F What Statement → Bool
omits_item item (What-F.Checkpoint items files) = not (is_among item items)
omits_item item (What-F.Assign _ _) = false
omits_item item (What-F.AssignCall _ _ _) = false
omits_item item (What-F.If _ _ _) = false
omits_item item (What-F.While _ _) = false
omits_item item (What-F.DoUntil _ _) = false
omits_item item (What-F.For _ _ _ _ _ _ _) = false
omits_item item (What-F.Call _ _) = false
omits_item item (What-F.Return _) = false
omits_item item (What-F.ReadUpdate _ _ _) = false
omits_item item (What-F.Reply _ _) = false
omits_item item (What-F.WriteRead _ _ _ _ _) = false
omits_item item What-F.CheckMonitor = false
omits_item item (What-F.Open _) = false
omits_item item What-F.Stop = false

-- SyncBlock: a CHECKPOINT that doesn't name a file
abbrev pub omits_file : ℕ → What-F What Statement → Bool
omits_file file (What-F.Checkpoint items files) = not (is_among file files)
omits_file file (What-F.Assign _ _) = false
omits_file file (What-F.AssignCall _ _ _) = false
omits_file file (What-F.If _ _ _) = false
omits_file file (What-F.While _ _) = false
omits_file file (What-F.DoUntil _ _) = false
omits_file file (What-F.For _ _ _ _ _ _ _) = false
omits_file file (What-F.Call _ _) = false
omits_file file (What-F.Return _) = false
omits_file file (What-F.ReadUpdate _ _ _) = false
omits_file file (What-F.Reply _ _) = false
omits_file file (What-F.WriteRead _ _ _ _ _) = false
omits_file file What-F.CheckMonitor = false
omits_file file (What-F.Open _) = false
omits_file file What-F.Stop = false

-- Input: a WRITEREAD or REPLY
abbrev pub sends : What-F What Statement → Bool
sends (What-F.WriteRead _ _ _ _ _) = true
sends (What-F.Reply _ _) = true
sends (What-F.Assign _ _) = false
sends (What-F.AssignCall _ _ _) = false
sends (What-F.If _ _ _) = false
sends (What-F.While _ _) = false
sends (What-F.DoUntil _ _) = false
sends (What-F.For _ _ _ _ _ _ _) = false
sends (What-F.Call _ _) = false
sends (What-F.Return _) = false
sends (What-F.ReadUpdate _ _ _) = false
sends (What-F.Checkpoint _ _) = false
sends What-F.CheckMonitor = false
sends (What-F.Open _) = false
sends What-F.Stop = false

-- whether a statement breaks for a reason where enough is due. Depth: a WRITEREAD on the file
abbrev pub may_break : Reason → What-F What Statement → Bool
may_break (Data item) what = omits_item item what
may_break (SyncBlock file) what = omits_file file what
may_break Input what = sends what
may_break (Depth file) what = is_among file (asked_by what)

-- whether enough is due for that: the global may have changed, the file was asked, a request was read, or as many
-- WRITEREADs on the file are due as replies are kept for it
abbrev pub is_enough : Program → Reason → Dues → Bool
is_enough program (Data item) dues = is_among item dues.globals
is_enough program (SyncBlock file) dues = is_among file dues.asked
is_enough program Input dues = dues.read
is_enough program (Depth file) dues = is_reached (slice_get program.files file) (asked_count file dues)

-- whether a statement breaks for a reason, with these dues before it
abbrev pub breaks_by : Program → Reason → Dues → What-F What Statement → Bool
breaks_by program reason dues what = may_break reason what && is_enough program reason dues

abbrev pub breaks_entry : Program → Reason → Dues → Option Entry → Bool
breaks_entry program reason dues (Some (Run statement)) = breaks_by program reason dues (out-What statement.what)
breaks_entry program reason dues _ = false

-- whether the next entry breaks for a reason
abbrev pub breaks_at : Program → Reason → Stand → Bool
breaks_at program reason stand = breaks_entry program reason stand.dues (next_entry stand)

-- a path breaks for a reason: its last statement does, with the dues that the path before it leads to
pub record Breaks (program : Program) (path : List ℕ) (reason : Reason) : Type 0 where
  pub front : List ℕ
  pub number : ℕ
  pub stand : Stand
  pub split : path ≡ front ++ number ∷ []
  pub leads : Leads program front stand
  pub next : number_at stand ≡ Some number
  pub breaks : IsTrue (breaks_at program reason stand)
