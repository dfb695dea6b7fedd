use Rattle.std.proofs.Common.{List, subst, sym}
use Rattle.name_table.specs.Entries.{Named}
use Rattle.tal_tree.specs.declared.site.TerminalSpec.{TerminalSpec}
use Rattle.deck_reader.specs.Decks.{IsTerminalOf}
use Rattle.deck_reader.specs.declared.outline.TerminalLines.{TerminalLines}
use Rattle.deck_reader.proofs.EachLemmas.{IsDoneTo, one_done}
use Rattle.deck_reader.proofs.NameLemmas.{target_found}
use Rattle.deck_reader.proofs.deck.terminals_of.Goals as goal

pub returns-in-Err : goal.returns-in-Err
returns-in-Err c =
    let one : Named TerminalLines = (c.in-Some.name, c.in-Some.lines) in
    target_found c.args.processes.now c.args.terminals _ _ one c.loop-name.specs c.in-Err.target c.loop-name.invariant
    c.in-Some.ensures.steps c.in-Err.ensures

pub loop-name-preserved : goal.loop-name-preserved
loop-name-preserved c =
    let one : Named TerminalLines = (c.in-Some.name, c.in-Some.lines) in
    let P : List TerminalSpec → Type 0 =
    λ specs. IsDoneTo (IsTerminalOf c.args.processes.now) c.args.terminals c.next.new.self specs in
    subst P (sym c.in_ok-push-in-Ok.ensures.ok)
    (one_done (IsTerminalOf c.args.processes.now) c.args.terminals _ _ one c.loop-name.specs c.in-Ok.terminal
    c.loop-name.invariant c.in-Some.ensures.steps c.in-Ok.ensures)
