use Rattle.std.proofs.Common.{◌≡◌, Some, option_map, subst, sym, ap, ◌∙◌, inr, refl}
use Rattle.deck_reader.specs.Decks.{AreTerminalsOf}
use Rattle.deck_reader.specs.Names.{misnamed_in}
use Rattle.deck_reader.specs.Refusals.{IsOutlineFault, Tells, name_fault}
use Rattle.deck_reader.proofs.NameLemmas.{found_in, tells_name}
use Rattle.deck_reader.proofs.deck.deck_of.Goals as goal

pub returns-in-Some-clause-err : goal.returns-in-Some-clause-err
returns-in-Some-clause-err c =
    let outline = c.args.outline in
    let specs = c.in_ok-specs.field-0.specs in
    let terminals : AreTerminalsOf outline.processes outline.terminals c.in-Ok.terminals =
    rw c.in-Ok.is at c.in_ok-target.ensures in
    let found : misnamed_in outline specs ≡ Some c.in-Some.misnamed =
    found_in outline specs c.in-Ok.terminals _ _ _ terminals c.in_ok-specs.ensures.named c.event_misnamed-event.ensures
    c.earlier.ensures ∙ c.in-Some.is in
    subst (Tells (IsOutlineFault outline)) (sym c.name_fault.ensures)
    (tells_name (IsOutlineFault outline) c.in-Some.misnamed
    (inr (specs, c.in_ok-specs.ensures.ok, ap (option_map name_fault) found)))

pub returns-clause-ok : goal.returns-clause-ok
returns-clause-ok c =
    let outline = c.args.outline in
    let specs = c.in_ok-specs.field-0.specs in
    let terminals : AreTerminalsOf outline.processes outline.terminals c.in-Ok.terminals =
    rw c.in-Ok.is at c.in_ok-target.ensures in
    record {
      processors = refl;
      processes = c.in_ok-specs.ensures.ok;
      terminals = terminals;
      lines = refl;
      named = found_in outline specs c.in-Ok.terminals _ _ _ terminals c.in_ok-specs.ensures.named
          c.event_misnamed-event.ensures c.earlier.ensures ∙ c.in-None.is;
    }
