use Rattle.std.proofs.Common.{None, subst, sym, ◌∙◌, arith}
use Rattle.name_table.specs.Entries.{Named}
use Rattle.deck_reader.specs.declared.outline.ProcessLines.{ProcessLines}
use Rattle.deck_reader.proofs.NameLemmas.{AreReadTo, none_read, one_read}
use Rattle.deck_reader.proofs.RefusedLemmas.{programs_tell}
use Rattle.deck_reader.proofs.SizeLemmas.{size_left}
use Rattle.deck_reader.proofs.programs.processes_of.Goals as goal

pub loop-name-init : goal.loop-name-init
loop-name-init c =
    let lines = c.args.lines.now in
    let all = c.into_iter-name-iterator.ensures.into_iter_gives ∙ c.iter-name-items.ensures in
    subst (λ specs. AreReadTo lines c.into_iter-name-iterator.result specs None) (sym c.new-specs.ensures)
    (none_read lines c.into_iter-name-iterator.result all)

pub process_of-requires : goal.process_of-requires
process_of-requires c =
    let one : Named ProcessLines = (c.in-Some.name.now, c.in-Some.process.now) in record {
      short = omega (
        arith,
        size_left c.args.lines.now _ _ one c.loop-name.specs c.loop-name.invariant.done
            c.in-Some.ensures.steps,
        c.requires.short,
      );
    }

pub returns-in-Err-clause-err : goal.returns-in-Err-clause-err
returns-in-Err-clause-err c =
    let one : Named ProcessLines = (c.in-Some.name.now, c.in-Some.process.now) in
    programs_tell c.args.lines.now _ _ one c.loop-name.specs c.in-Err.fault c.loop-name.invariant.done
    c.in-Some.ensures.steps c.in-Err.ensures.err

pub loop-name-preserved : goal.loop-name-preserved
loop-name-preserved c =
    let lines = c.args.lines.now in
    let one : Named ProcessLines = (c.in-Some.name.now, c.in-Some.process.now) in
    subst (λ specs. AreReadTo lines c.next.new.self specs c.first_of-misnamed.result)
    (sym c.in_ok-push-in-Ok.ensures.ok)
    (one_read lines _ _ one c.loop-name.specs c.in-Ok.spec c.loop-name.misnamed c.process_misnamed-one.result
    c.first_of-misnamed.result c.loop-name.invariant
    c.in-Some.ensures.steps c.in-Ok.ensures.ok c.process_misnamed-one.ensures c.first_of-misnamed.ensures)
