-- The table of a program.
use Rattle.std.specs.Prelude.{◌≡◌, ◌≤◌, ℕ, Bool, true, false, List, length, drop, slice_get, Option, Some, None}
use Rattle.std.specs.Option.{option_and_then}
use Rattle.gd_words.specs.Members.{IsAmong}
use Rattle.tal_tree.specs.Limits.{IsWithinLimits}
use Rattle.tal_tree.specs.Ordered.{IsNumbered}
use Rattle.tal_tree.specs.Regular.{IsRegular}
use Rattle.tal_tree.specs.declared.program.Procedure.{Procedure}
use Rattle.tal_tree.specs.declared.program.Program.{Program}
use Rattle.process_semantics.specs.Rests.{rests_of, rest_from}
use Rattle.process_semantics.specs.State.{Entry, runs_of}
use Rattle.program_deeds.specs.Deed.{Deed, Enters, deed_of}
use Rattle.tal_table.specs.Places.{places, rest_at}
use Rattle.tal_table.specs.Seen.{seen}
use Rattle.tal_table.specs.declared.node.Heading.{Heading}
use Rattle.tal_table.specs.declared.node.Node.{Node}
use Rattle.gd_words.specs.declared.limits.TheConstants.{MOST_LOCALS}

-- a call has at most 12 arguments
abbrev pub HasFew : Deed → Type 0
HasFew (Enters procedure arguments to) = length arguments ≤ MOST_LOCALS
HasFew _ = Unit {0}

-- a node does what is done where this remains, and after it comes what comes after the first entry
pub record Tells (program : Program) (rest : List Entry) (node : Node) : Type 0 where
  pub deed : seen (places program) node.work ≡ deed_of rest
  pub after : rest_at (places program) node.after ≡ drop 1 rest
  pub few : HasFew (seen (places program) node.work)

-- a heading is that of the procedure of this number
pub record Heads (program : Program) (number : ℕ) (heading : Heading) : Type 0 where
  pub procedure : Procedure
  pub there : slice_get program.procedures number ≡ Some procedure
  pub first : rest_at (places program) heading.first ≡ runs_of procedure.body
  pub locals : heading.locals ≡ length procedure.locals
  pub few : heading.locals ≤ MOST_LOCALS

-- what remains of a procedure from a number on, where both are there
abbrev pub told_in : Program → ℕ → ℕ → Option (List Entry)
told_in program procedure number =
    option_and_then (λ (of : Procedure). rest_from of.body number) (slice_get program.procedures procedure)

-- what remains at a place is told, or nothing is
abbrev pub told_if : Bool → List Entry → Option (List Entry)
told_if true rest = Some rest
told_if false rest = None

-- this remains from one of the entries of the procedure of this number on
abbrev pub IsOf : List Procedure → ℕ → List Entry → Type 0
IsOf procedures number rest =
    (procedure : Procedure) × (slice_get procedures number ≡ Some procedure) × IsAmong rest (rests_of procedure.body)

-- the nodes of a program: one for each number, and one for 0
pub record AreNodes (program : Program) (nodes : List Node) : Type 0 where
  pub tell : (number : ℕ) (node : Node) → slice_get nodes number ≡ Some node
      → Tells program (rest_at (places program) number) node
  pub own : (number : ℕ) (node : Node) → 1 ≤ number → slice_get nodes number ≡ Some node
      → IsOf program.procedures node.procedure (rest_at (places program) number)
  pub all : length nodes ≡ length (places program)

-- the headings of a program: one for each procedure
pub record AreHeadings (program : Program) (headings : List Heading) : Type 0 where
  pub head : (number : ℕ) (heading : Heading) → slice_get headings number ≡ Some heading → Heads program number heading
  pub all : length headings ≡ length program.procedures

-- the table of a program that is numbered in the order of its text, keeps its limits and is regular
pub record IsTable (program : Program) (nodes : List Node) (headings : List Heading) : Type 0 where
  pub numbered : IsNumbered program
  pub limits : IsWithinLimits program
  pub regular : IsRegular program
  pub nodes_are : AreNodes program nodes
  pub headings_are : AreHeadings program headings
