-- What is left at the end of a run, as text. Our own wording.
use Rattle.std.specs.Prelude.{ℕ, zero, suc, ◌+◌, ℤ, pos, Bool, true, false, List, [], ◌∷◌, ◌++◌, codes, flat_map}
use Rattle.std.specs.Prelude.{slice_get, Option, Some, None}
use Rattle.std.specs.Fmt.{decimal, signed_decimal}
use Rattle.tal_tree.specs.declared.site.ProcessSpec.{ProcessSpec}
use Rattle.tal_tree.specs.declared.site.Site.{Site}
use Rattle.tal_tree.specs.declared.site.TerminalSpec.{TerminalSpec}
use Rattle.finding_text.specs.Carried.{place_line}
use Rattle.finding_text.specs.DeckPlace.{pair_line}
use Rattle.left_findings.specs.declared.finding.Left.{Left}
use Rattle.left_findings.specs.declared.finding.ProcessLeft.{ProcessLeft}
use Rattle.left_findings.specs.declared.finding.Stand.{Stand}
use Rattle.left_findings.specs.declared.finding.Stand.TheVariants as stand
use Rattle.left_findings.specs.declared.finding.TerminalLeft.{TerminalLeft}
use Rattle.left_findings.specs.declared.finding.TerminalLeft.TheVariants as terminal
use Rattle.program_ends.specs.declared.ending.LastStep.{LastStep}
use Rattle.program_ends.specs.declared.ending.LastStep.TheVariants.{MainEnded, Stopped, Returned, Trapped, TrappedAtEnd}
use Rattle.program_ends.specs.declared.ending.Trap.{Trap}
use Rattle.program_ends.specs.declared.ending.Trap.TheVariants as trap
use Rattle.value_traps.specs.declared.trap.ValueTrap.{ValueTrap}
use Rattle.value_traps.specs.declared.trap.ValueTrap.TheVariants as why

-- Terminals

abbrev pub unanswered_text : ℕ → List ℕ
unanswered_text number = codes ": request " ++ decimal number ++ (codes " has no reply" ++ 10 ∷ [])

abbrev pub answered_text : ℕ → List ℕ
answered_text count = codes ": all that it entered has its reply, requests: " ++ decimal count ++ 10 ∷ []

abbrev pub end_of_terminal : TerminalLeft → List ℕ
end_of_terminal (terminal.Unanswered number) = unanswered_text number
end_of_terminal (terminal.Answered count) = answered_text count

abbrev pub terminal_line : List ℕ → TerminalLeft → List ℕ
terminal_line name left = name ++ end_of_terminal left

abbrev pub terminal_lines : List TerminalSpec → List TerminalLeft → List ℕ
terminal_lines [] all = []
terminal_lines (spec ∷ specs) [] = []
terminal_lines (spec ∷ specs) (left ∷ all) = terminal_line spec.name left ++ terminal_lines specs all

-- Processes

abbrev pub named_in : Option ProcessSpec → List ℕ
named_in None = []
named_in (Some spec) = spec.name

-- the name of the process of a number
abbrev pub name_at : List ProcessSpec → ℕ → List ℕ
name_at all number = named_in (slice_get all number)

abbrev pub server_name : List ProcessSpec → Option ℕ → List ℕ
server_name all None = []
server_name all (Some number) = name_at all number

-- what is told where neither a number is nor an end
abbrev pub plain_text : Stand → List ℕ
plain_text stand.AtTakeover = codes " waits until its backup takes over" ++ 10 ∷ []
plain_text stand.Ended = []
plain_text stand.AtTake = codes " waits for a request" ++ 10 ∷ []
plain_text stand.CanStep = codes " waits for nothing: it could go on" ++ 10 ∷ []
plain_text (stand.AtAwait awaited) = []
plain_text (stand.AtAcknowledgement number) = []

abbrev pub awaiting_text : List ℕ → ℕ → List ℕ
awaiting_text server number =
    codes " waits for the reply to request " ++ decimal number ++ codes ", which it asked of " ++ server ++ 10 ∷ []

abbrev pub checked_text : ℕ → List ℕ
checked_text number = codes " waits until its backup acknowledges checkpoint " ++ decimal number ++ 10 ∷ []

-- how a process has ended
abbrev pub step_text : LastStep → List ℕ
step_text MainEnded = codes " has ended: its MAIN came to its end" ++ 10 ∷ []
step_text (Stopped line) = codes " has ended by STOP:" ++ 10 ∷ []
step_text (Returned line) = codes " has ended with the RETURN of its MAIN:" ++ 10 ∷ []
step_text (Trapped line trap) = codes " has ended by a trap of this statement:" ++ 10 ∷ []
step_text (TrappedAtEnd target) =
    codes " has ended by a trap: a procedure came to its end, and its word goes to an element that isn't there:"
    ++ 10 ∷ []

abbrev pub ended_text : Option LastStep → List ℕ
ended_text None = codes " has ended" ++ 10 ∷ []
ended_text (Some step) = step_text step

-- where a process stands that awaits the reply of a process of this name, if it awaits one, and ended with this step,
-- if it has
abbrev pub stand_text : List ℕ → Option LastStep → Stand → List ℕ
stand_text server step (stand.AtAwait awaited) = awaiting_text server awaited.number
stand_text server step (stand.AtAcknowledgement number) = checked_text number
stand_text server step stand.AtTakeover = plain_text stand.AtTakeover
stand_text server step stand.Ended = ended_text step
stand_text server step stand.AtTake = plain_text stand.AtTake
stand_text server step stand.CanStep = plain_text stand.CanStep

abbrev pub line_of_step : LastStep → Option ℕ
line_of_step MainEnded = None
line_of_step (Stopped line) = Some line
line_of_step (Returned line) = Some line
line_of_step (Trapped line trap) = Some line
line_of_step (TrappedAtEnd target) = target.line

abbrev pub line_of_end : Option LastStep → Option ℕ
line_of_end None = None
line_of_end (Some step) = line_of_step step

-- the line of its program's text at which a process stands or, where it has ended, that of its last step
abbrev pub line_shown : Option LastStep → Stand → Option ℕ → Option ℕ
line_shown step stand.Ended line = line_of_end step
line_shown step (stand.AtAwait awaited) line = line
line_shown step (stand.AtAcknowledgement number) line = line
line_shown step stand.AtTakeover line = line
line_shown step stand.AtTake line = line
line_shown step stand.CanStep line = line

-- the line of the deck, by that of the program's text of the pair of this name
abbrev pub place_text : List ℕ → List ℕ → Option ℕ → List ℕ
place_text bytes name None = []
place_text bytes name (Some line) = place_line bytes (pair_line bytes name + line)

-- the bounds out of which an index is
abbrev pub bounds_text : ℤ → ℤ → List ℕ
bounds_text low high =
    codes " is out of the bounds " ++ signed_decimal low ++ codes " to " ++ signed_decimal high ++ 10 ∷ []

abbrev pub index_text : ℤ → ℤ → ℤ → List ℕ
index_text index low high = codes "         index " ++ signed_decimal index ++ bounds_text low high

-- why a value isn't there
abbrev pub value_text : ValueTrap → List ℕ
value_text why.ZeroDivisor = codes "         it divides by 0" ++ 10 ∷ []
value_text (why.Index index low high) = index_text index low high
value_text why.NotThere = codes "         what it names isn't there" ++ 10 ∷ []

-- why the element isn't there to which a procedure gives its word
abbrev pub target_text : ValueTrap → List ℕ
target_text why.ZeroDivisor = codes "         the index of that element divides by 0" ++ 10 ∷ []
target_text (why.Index index low high) = index_text index low high
target_text why.NotThere = []

-- a count, and the most that its array lets it be
abbrev pub bad_count_text : ℤ → ℤ → List ℕ
bad_count_text count most = codes "         count " ++ signed_decimal count ++ bounds_text (pos 0) most

abbrev pub no_element_text : ValueTrap → List ℕ
no_element_text met =
    (codes "         its word goes to an element that isn't there" ++ 10 ∷ []) ++ target_text met

-- why a statement trapped
abbrev pub trap_text : Trap → List ℕ
trap_text trap.NothingInHand = codes "         no request is in hand" ++ 10 ∷ []
trap_text trap.RequestInHand = codes "         a request is in hand already" ++ 10 ∷ []
trap_text (trap.Value met) = value_text met
trap_text (trap.Count count most) = bad_count_text count most
trap_text (trap.Target met) = no_element_text met

abbrev pub why_text : LastStep → List ℕ
why_text MainEnded = []
why_text (Stopped line) = []
why_text (Returned line) = []
why_text (Trapped line trap) = trap_text trap
why_text (TrappedAtEnd target) = target_text target.met

-- why a process has ended, and that a request which it has in hand gets no reply
abbrev pub lost_text : Bool → List ℕ
lost_text false = []
lost_text true = codes "         the request that it has in hand gets no reply" ++ 10 ∷ []

abbrev pub reason_text : Option LastStep → List ℕ
reason_text None = []
reason_text (Some step) = why_text step

abbrev pub end_text : Option LastStep → Bool → List ℕ
end_text step in_hand = reason_text step ++ lost_text in_hand

abbrev pub after_text : Option LastStep → Bool → Stand → List ℕ
after_text step in_hand stand.Ended = end_text step in_hand
after_text step in_hand (stand.AtAwait awaited) = []
after_text step in_hand (stand.AtAcknowledgement number) = []
after_text step in_hand stand.AtTakeover = []
after_text step in_hand stand.AtTake = []
after_text step in_hand stand.CanStep = []

abbrev pub count_text : ℕ → List ℕ
count_text count = codes "         requests that wait for it: " ++ decimal count ++ 10 ∷ []

abbrev pub waiting_text : ℕ → List ℕ
waiting_text zero = []
waiting_text (suc more) = count_text (suc more)

abbrev pub process_line : List ℕ → List ProcessSpec → List ℕ → ProcessLeft → Option LastStep → List ℕ
process_line bytes all name left step =
    name ++ stand_text (server_name all left.server) step left.stand
    ++ place_text bytes name (line_shown step left.stand left.line)
    ++ after_text step left.in_hand left.stand ++ waiting_text left.waiting

-- these processes, which stand among all, with the steps with which they ended
abbrev pub process_lines : List ℕ → List ProcessSpec → List ProcessSpec → List ProcessLeft
    → List (Option LastStep) → List ℕ
process_lines bytes all [] lefts steps = []
process_lines bytes all (spec ∷ specs) [] steps = []
process_lines bytes all (spec ∷ specs) (left ∷ lefts) [] = []
process_lines bytes all (spec ∷ specs) (left ∷ lefts) (step ∷ steps) =
    process_line bytes all spec.name left step ++ process_lines bytes all specs lefts steps

-- Rings

abbrev pub other_text : List ProcessSpec → ℕ → List ℕ
other_text all one = codes ", " ++ name_at all one

abbrev pub itself_text : List ℕ → List ℕ
itself_text name = name ++ codes " waits for itself" ++ 10 ∷ []

abbrev pub each_other_text : List ProcessSpec → ℕ → List ℕ → List ℕ
each_other_text all first others =
    name_at all first ++ flat_map (other_text all) others
    ++ (codes " wait for each other: each for a reply of the next, the last for one of the first" ++ 10 ∷ [])

-- processes of which each awaits the next, and the last one the first
abbrev pub ring_text : List ProcessSpec → List ℕ → List ℕ
ring_text all [] = []
ring_text all (first ∷ []) = itself_text (name_at all first)
ring_text all (first ∷ other ∷ others) = each_other_text all first (other ∷ others)

-- Whole

-- what is left at the end of a run of the deck of these bytes, whose processes ended with these steps
abbrev pub left_text : List ℕ → Site → Left → List (Option LastStep) → List ℕ
left_text bytes site left steps =
    terminal_lines site.terminals left.terminals
    ++ process_lines bytes site.processes site.processes left.processes steps
    ++ flat_map (ring_text site.processes) left.rings
