use Rattle.std.proofs.Common.{◌≡◌, ◌≤◌, ◌+◌, Err, length, arith, subst}
use Rattle.std.proofs.lemmas.Bool.Decides.{nat_tests}
use Rattle.deck_lines.specs.Lines.{lines_of}
use Rattle.deck_reader.specs.Outlined.{outline_of}
use Rattle.deck_reader.specs.declared.told.Told.TheVariants as told
use Rattle.deck_reader.proofs.RefusedLemmas.{errs_refused, errs_short, of_broken, of_whole}
use Rattle.deck_reader.proofs.SizeLemmas.{TellsWithin, texts_within}
use Rattle.deck_reader.proofs.StageLemmas.{outline_kept}
use Rattle.deck_reader.proofs.deck.read_deck.Goals as goal

pub breach_fault-requires : goal.breach_fault-requires
breach_fault-requires c =
    let bytes = c.args.bytes.now in
    let short : length bytes ≤ 1048576 = grind (arith, nat_tests) in
    let a = c.in-Ok-Broken.ensures in
    let b = c.in-Ok-Broken.field-0-is in
    let o = c.in-Ok-Broken.breach-is in
    let e : outline_of (lines_of bytes) ≡ told.Broken c.in-Ok-Broken.breach = cc in
    record { short = omega (arith, short, subst (TellsWithin (length bytes + 1)) e (texts_within bytes)) }

pub deck_of-requires-clause-short : goal.deck_of-requires-clause-short
deck_of-requires-clause-short c =
    let bytes = c.args.bytes.now in
    let short : length bytes ≤ 1048576 = grind (arith, nat_tests) in
    let a = c.in-Ok-Whole.ensures in
    let b = c.in-Ok-Whole.field-0-is in
    let o = c.in-Ok-Whole.outline-is in
    let e : outline_of (lines_of bytes) ≡ told.Whole c.in-Ok-Whole.outline = cc in
    omega (arith, short, subst (TellsWithin (length bytes + 1)) e (texts_within bytes))

pub deck_of-requires-clause-few : goal.deck_of-requires-clause-few
deck_of-requires-clause-few c =
    let bytes = c.args.bytes.now in
    let a = c.in-Ok-Whole.ensures in
    let b = c.in-Ok-Whole.field-0-is in
    let o = c.in-Ok-Whole.outline-is in
    let e : outline_of (lines_of bytes) ≡ told.Whole c.in-Ok-Whole.outline = cc in
    (outline_kept (lines_of bytes) c.in-Ok-Whole.outline e).0.few.processes

pub returns-in-Ok-Broken-clause-too_long : goal.returns-in-Ok-Broken-clause-too_long
returns-in-Ok-Broken-clause-too_long c =
    let bytes = c.args.bytes.now in
    let short : length bytes ≤ 1048576 = grind (arith, nat_tests) in
    let a = c.in-Ok-Broken.ensures in
    let b = c.in-Ok-Broken.field-0-is in
    let o = c.in-Ok-Broken.breach-is in
    let e : outline_of (lines_of bytes) ≡ told.Broken c.in-Ok-Broken.breach = cc in
    errs_short bytes (Err c.breach_fault.result) short
    (of_broken c.in-Ok-Broken.breach c.breach_fault.result (outline_of (lines_of bytes)) e c.breach_fault.ensures)

pub returns-in-Ok-Broken-clause-err : goal.returns-in-Ok-Broken-clause-err
returns-in-Ok-Broken-clause-err c =
    let bytes = c.args.bytes.now in
    let short : length bytes ≤ 1048576 = grind (arith, nat_tests) in
    let a = c.in-Ok-Broken.ensures in
    let b = c.in-Ok-Broken.field-0-is in
    let o = c.in-Ok-Broken.breach-is in
    let e : outline_of (lines_of bytes) ≡ told.Broken c.in-Ok-Broken.breach = cc in
    errs_refused bytes (Err c.breach_fault.result) short
    (of_broken c.in-Ok-Broken.breach c.breach_fault.result (outline_of (lines_of bytes)) e c.breach_fault.ensures)

pub returns-in-Ok-Whole-clause-too_long : goal.returns-in-Ok-Whole-clause-too_long
returns-in-Ok-Whole-clause-too_long c =
    let bytes = c.args.bytes.now in
    let short : length bytes ≤ 1048576 = grind (arith, nat_tests) in
    let a = c.in-Ok-Whole.ensures in
    let b = c.in-Ok-Whole.field-0-is in
    let o = c.in-Ok-Whole.outline-is in
    let e : outline_of (lines_of bytes) ≡ told.Whole c.in-Ok-Whole.outline = cc in
    errs_short bytes c.deck_of.result short
    (of_whole c.in-Ok-Whole.outline c.deck_of.result (outline_of (lines_of bytes)) e c.deck_of.ensures.err)

pub returns-in-Ok-Whole-clause-err : goal.returns-in-Ok-Whole-clause-err
returns-in-Ok-Whole-clause-err c =
    let bytes = c.args.bytes.now in
    let short : length bytes ≤ 1048576 = grind (arith, nat_tests) in
    let a = c.in-Ok-Whole.ensures in
    let b = c.in-Ok-Whole.field-0-is in
    let o = c.in-Ok-Whole.outline-is in
    let e : outline_of (lines_of bytes) ≡ told.Whole c.in-Ok-Whole.outline = cc in
    errs_refused bytes c.deck_of.result short
    (of_whole c.in-Ok-Whole.outline c.deck_of.result (outline_of (lines_of bytes)) e c.deck_of.ensures.err)
