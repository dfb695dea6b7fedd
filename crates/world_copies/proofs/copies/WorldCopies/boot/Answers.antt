use Rattle.std.proofs.Common.{◌∙◌, ap, subst, sym, arith}
use Rattle.process_copies.specs.Starting.{IsStartable}
use Rattle.world_copies.specs.Seen.{terminal_row}
use Rattle.world_copies.specs.Starting.{placed_from}
use Rattle.world_copies.proofs.Beginning.{drives-of-first, stands-first, pairs-of-first}
use Rattle.world_copies.proofs.copies.WorldCopies.boot.Goals as goal

pub invariant_of-result : goal.invariant_of-result
invariant_of-result c =
    stands-first c.in_ok-site.site c.in_ok-processes.processes.items c.in_ok-places.places
    (c.in_ok-processes.ensures ∙ ap (λ site. placed_from site 0 site.processes)
    (c.get-4.ensures ∙ sym c.in_ok-site.ensures))
    (c.in_ok-places.ensures ∙ ap (λ site. terminal_row site 0 site.terminals)
    (c.get.ensures ∙ sym c.in_ok-site.ensures))
    (subst IsStartable (sym c.in_ok-site.ensures) c.requires)

pub returns : goal.returns
returns c =
    let pairs = pairs-of-first c.get-4.result.now c.in_ok-processes.processes.items c.in_ok-processes.ensures in
    let drives = drives-of-first c.get-4.result.now c.in_ok-processes.processes.items c.in_ok-processes.ensures in
    grind (arith, pairs, drives)
