-- What is left at the end of a run, by the view of its machine.
use Rattle.std.specs.Prelude.{◌≡◌, ℕ, ◌+◌, Bool, false, if◌then◌else◌, is_some, length, nat_lt, List, [], ◌∷◌}
use Rattle.std.specs.Prelude.{map, slice_get, Option, Some, None}
use Rattle.machine_views.specs.Views.{acting_of}
use Rattle.machine_views.specs.declared.views.Awaited.{Awaited}
use Rattle.machine_views.specs.declared.views.CopyView.{CopyView}
use Rattle.machine_views.specs.declared.views.TerminalView.{TerminalView}
use Rattle.machine_views.specs.declared.views.View.{View}
use Rattle.plain_semantics.specs.Openers.{files_of, server_of_file}
use Rattle.process_semantics.specs.declared.point.Point.{Point}
use Rattle.process_semantics.specs.declared.point.Point.TheVariants as point
use Rattle.tal_tree.specs.declared.site.ProcessSpec.{ProcessSpec}
use Rattle.tal_tree.specs.declared.site.Site.{Site}
use Rattle.wait_rings.specs.Waits.{TellsRings}
use Rattle.left_findings.specs.Places.{line_of_copy}
use Rattle.left_findings.specs.declared.finding.Left.{Left}
use Rattle.left_findings.specs.declared.finding.ProcessLeft.{ProcessLeft}
use Rattle.left_findings.specs.declared.finding.Stand.{Stand}
use Rattle.left_findings.specs.declared.finding.Stand.TheVariants as stand
use Rattle.left_findings.specs.declared.finding.TerminalLeft.{TerminalLeft}
use Rattle.left_findings.specs.declared.finding.TerminalLeft.TheVariants as terminal

-- a copy at a reply that it awaits
abbrev pub stand_awaiting : Option Awaited → Stand
stand_awaiting None = stand.CanStep
stand_awaiting (Some awaited) = stand.AtAwait awaited

-- a copy at a checkpoint of this number: it waits once that was sent
abbrev pub stand_checked : Bool → ℕ → Stand
stand_checked sent number = if sent then stand.AtAcknowledgement number else stand.CanStep

abbrev pub stand_at_point : CopyView → Point → Stand
stand_at_point copy point.Take = stand.AtTake
stand_at_point copy point.Await = stand_awaiting copy.awaited
stand_at_point copy point.AtCheckpoint = stand_checked copy.sent copy.number
stand_at_point copy point.Ended = stand.Ended
stand_at_point copy point.Inner = stand.CanStep
stand_at_point copy point.Ask = stand.CanStep
stand_at_point copy point.Answer = stand.CanStep
stand_at_point copy point.Device = stand.CanStep

-- where a copy stands that acts: one that has sent a checkpoint waits until that is acknowledged, and one that has to
-- send everything can do so unless it awaits a reply
abbrev pub stand_renewing : CopyView → Point → Stand
stand_renewing copy point.Await = stand_awaiting copy.awaited
stand_renewing copy point.Take = stand.CanStep
stand_renewing copy point.AtCheckpoint = stand.CanStep
stand_renewing copy point.Ended = stand.CanStep
stand_renewing copy point.Inner = stand.CanStep
stand_renewing copy point.Ask = stand.CanStep
stand_renewing copy point.Answer = stand.CanStep
stand_renewing copy point.Device = stand.CanStep

abbrev pub stand_at : CopyView → Stand
stand_at copy =
    if copy.sent then stand.AtAcknowledgement copy.number
    else if copy.renewal then stand_renewing copy copy.point
    else stand_at_point copy copy.point

-- the process whose reply a process awaits that stands so
abbrev pub server_of_stand : Site → ProcessSpec → Stand → Option ℕ
server_of_stand site spec (stand.AtAwait awaited) =
    server_of_file site (slice_get (files_of spec.what) awaited.file)
server_of_stand site spec stand.AtTakeover = None
server_of_stand site spec stand.Ended = None
server_of_stand site spec stand.AtTake = None
server_of_stand site spec (stand.AtAcknowledgement number) = None
server_of_stand site spec stand.CanStep = None

-- a process stands where its copy stands that acts
abbrev pub left_acting : Site → ProcessSpec → CopyView → ProcessLeft
left_acting site spec copy = record {
  stand = stand_at copy;
  server = server_of_stand site spec (stand_at copy);
  line = line_of_copy spec.what copy;
  in_hand = is_some copy.receive.in_hand;
  waiting = length copy.waiting;
}

-- if none does, its other copy has yet to take over
abbrev pub left_by : Site → ProcessSpec → Option CopyView → ProcessLeft
left_by site spec None =
    record { stand = stand.AtTakeover; server = None; line = None; in_hand = false; waiting = 0 }
left_by site spec (Some copy) = left_acting site spec copy

-- the process of this number
abbrev pub left_process : Site → List CopyView → ℕ → ProcessSpec → ProcessLeft
left_process site copies process spec = left_by site spec (acting_of process copies)

-- each of these processes, of which the first has this number
abbrev pub processes_left : Site → List CopyView → ℕ → List ProcessSpec → List ProcessLeft
processes_left site copies process [] = []
processes_left site copies process (spec ∷ specs) =
    left_process site copies process spec ∷ processes_left site copies (process + 1) specs

-- a terminal enters its next request once it has the reply to the one before
abbrev pub terminal_left : TerminalView → TerminalLeft
terminal_left view =
    if nat_lt view.printed view.entered then terminal.Unanswered (view.printed + 1) else terminal.Answered view.printed

-- the process whose reply each awaits, if it awaits one
abbrev pub servers_of : List ProcessLeft → List (Option ℕ)
servers_of lefts = map (λ left. left.server) lefts

-- what is left of the processes and the terminals of a site, and all rings of those that await each other's replies
pub record IsLeft (site : Site) (view : View) (left : Left) : Type 0 where
  pub processes : left.processes ≡ processes_left site view.copies 0 site.processes
  pub terminals : left.terminals ≡ map terminal_left view.terminals
  pub rings : TellsRings (servers_of left.processes) left.rings
