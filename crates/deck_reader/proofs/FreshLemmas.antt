-- The name of what a line adds is new.
use Rattle.std.proofs.Common.{◌≡◌, ℕ, Bool, true, false, not, cond, ◌&&◌, nat_eq, nat_le, nat_lt, List, length, refl}
use Rattle.std.proofs.Common.{subst}
use Rattle.std.specs.Prelude.{Result, Ok, Err}
use Rattle.name_table.specs.Entries.{Named, has_name}
use Rattle.deck_reader.specs.Fresh.{IsNewHeading}
use Rattle.deck_reader.specs.LineFaults.{disc_of, heading_of, is_new, process_with, with_sectors}
use Rattle.deck_reader.specs.declared.line_fault.LineFault.{LineFault}
use Rattle.deck_reader.specs.declared.line_fault.LineFault.TheVariants as fault
use Rattle.deck_reader.specs.declared.outline.Body.TheVariants as body
use Rattle.deck_reader.specs.declared.outline.Heading.{Heading}
use Rattle.deck_reader.specs.declared.outline.Outline.{Outline}
use Rattle.deck_reader.specs.declared.outline.ProcessLines.{ProcessLines}
use Rattle.deck_lines.specs.declared.saying.Placing.{Placing}
use Rattle.tal_tree.specs.declared.limit.DeckLimit.TheVariants as deck_limit

-- a new name is neither a process's nor a terminal's
pub new_names : (outline : Outline) (name : List ℕ) → not (is_new outline name) ≡ false
    → (has_name outline.processes name ≡ false) × (has_name outline.terminals name ≡ false)
new_names outline name e = by (has_name outline.processes name) (has_name outline.terminals name) e
  where
    by : (a b : Bool) → not (not a && not b) ≡ false → (a ≡ false) × (b ≡ false)
    by true b e = absurd (cc)
    by false true e = absurd (cc)
    by false false e = (refl, refl)

pub heading_new : (outline : Outline) (placing : Placing) → IsNewHeading outline (heading_of outline placing)
heading_new outline placing =
    by (not (is_new outline placing.name)) (nat_eq placing.primary placing.backup)
    (nat_le outline.processors placing.primary) (nat_le outline.processors placing.backup)
    (nat_le 16 (length outline.processes)) refl
  where
    by : (a b c d e : Bool) → not (is_new outline placing.name) ≡ a
        → IsNewHeading outline (cond a (Err fault.NameTwice)
        (cond b (Err fault.SameProcessor) (cond c (Err fault.NoProcessor) (cond d (Err fault.NoProcessor)
        (cond e (Err (fault.Limit deck_limit.Processes)) (Ok (record
        { name = placing.name; primary = placing.primary; backup = placing.backup })))))))
    by true b c d e p = tt
    by false true c d e p = tt
    by false false true d e p = tt
    by false false false true e p = tt
    by false false false false true p = tt
    by false false false false false p = (new_names outline placing.name p).0

-- nor is that of a disc
abbrev IsNewProcess : Outline → Result (Named ProcessLines) LineFault → Type 0
IsNewProcess outline (Err why) = Unit {0}
IsNewProcess outline (Ok process) = has_name outline.processes process.0 ≡ false

sectors_new : (outline : Outline) (sectors : ℕ) (mirrored : Bool) (heading : Result Heading LineFault)
    → IsNewHeading outline heading
    → IsNewProcess outline (with_sectors sectors mirrored heading)
sectors_new outline sectors mirrored (Err why) new = tt
sectors_new outline sectors mirrored (Ok heading) new = by (nat_lt sectors 1) (nat_lt 64 sectors)
  where
    by : (a b : Bool) → IsNewProcess outline
        (cond a (Err (fault.Limit deck_limit.Sectors)) (cond b (Err (fault.Limit deck_limit.Sectors))
        (Ok (process_with heading (body.Disc sectors mirrored)))))
    by true b = tt
    by false true = tt
    by false false = new

pub disc_new : (outline : Outline) (placing : Placing) (sectors : ℕ) (mirrored : Bool) (process : Named ProcessLines)
    → disc_of outline placing sectors mirrored ≡ Ok process → has_name outline.processes process.0 ≡ false
disc_new outline placing sectors mirrored process e =
    subst (IsNewProcess outline) e (sectors_new outline sectors mirrored (heading_of outline placing)
    (heading_new outline placing))
