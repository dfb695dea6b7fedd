use Rattle.std.proofs.Common.{◌≡◌, ℕ, List, ap, subst, sym, ◌∙◌}
use Rattle.wait_rings.specs.Waits.{TellsRings}
use Rattle.left_findings.specs.Left.{servers_of}
use Rattle.left_findings.specs.declared.finding.ProcessLeft.{ProcessLeft}
use Rattle.left_findings.proofs.laws.what_is_left_is_one.Goals as goal

pub returns : goal.returns
returns c = λ site view left other first second.
    let processes : left.processes ≡ other.processes = first.processes ∙ sym second.processes in
    let rings : left.rings ≡ other.rings =
    c.each_ring_is_told_once.ensures.only (servers_of other.processes) left.rings other.rings
    (subst (λ (all : List ProcessLeft). TellsRings (servers_of all) left.rings) processes first.rings) second.rings in
    ap (λ (all : List ProcessLeft). record left { processes = all }) processes
    ∙ ap (λ all. record left { processes = other.processes; terminals = all })
    (first.terminals ∙ sym second.terminals)
    ∙ ap (λ (all : List (List ℕ)). record other { rings = all }) rings
