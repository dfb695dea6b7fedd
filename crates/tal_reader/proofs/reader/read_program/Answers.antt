use Rattle.std.proofs.Common.{◌≡◌, get_or}
use Rattle.tal_builder.specs.tal_syntax.specs.Expected.{IsWithin, IsUnfinished, IsUnexpected, IsTooDeep}
use Rattle.tal_reader.specs.Reads.{IsJudged}
use Rattle.tal_reader.proofs.Reading.{fine-as, misspelt-as, unexpected-as, deep-as, deep-there, token-at}
use Rattle.tal_reader.proofs.reader.read_program.Goals as goal

pub returns-in-Fine : goal.returns-in-Fine
returns-in-Fine c =
    let within : IsWithin 33 c.in_ok-cut.cut.list =
    rw (c.in-Fine.is, c.as_slice-list.ensures) at c.in_ok-judge.ensures in
    let judged : IsJudged c.in_ok-cut.cut.list c.program_of.result =
    rw c.as_slice-list.ensures at c.program_of.ensures in
    fine-as c.args.text.now c.in_ok-cut.cut c.program_of.result c.in_ok-cut.ensures.value within judged

pub returns-in-Some : goal.returns-in-Some
returns-in-Some c =
    let unfinished : IsUnfinished 33 c.in_ok-cut.cut.list =
    rw (c.in-Unfinished.is, c.as_slice-list.ensures) at c.in_ok-judge.ensures in
    misspelt-as c.args.text.now c.in_ok-cut.cut c.in-Some.fault c.in_ok-cut.ensures.value c.in-Some.is unfinished

pub returns-in-Unexpected : goal.returns-in-Unexpected
returns-in-Unexpected c =
    let unexpected : IsUnexpected 33 c.in_ok-cut.cut.list c.in-Unexpected.k =
    rw (c.in-Unexpected.is, c.as_slice-list.ensures) at c.in_ok-judge.ensures in
    let token : c.index-list-k.result ≡ get_or c.in_ok-cut.cut.list c.in-Unexpected.k c.index-list-k.result =
    rw c.as_slice-list.ensures at c.index-list-k.is in
    rw c.place_of.ensures
    (unexpected-as c.args.text.now c.in_ok-cut.cut c.in-Unexpected.k c.index-list-k.result c.in_ok-cut.ensures.value
    unexpected
    (token-at c.in_ok-cut.cut.list c.in-Unexpected.k c.index-list-k.result unexpected.there token))

pub returns : goal.returns
returns c =
    let deep : IsTooDeep 33 c.in_ok-cut.cut.list c.in-TooDeep.k =
    rw (c.in-TooDeep.is, c.as_slice-list.ensures) at c.in_ok-judge.ensures in
    let token : c.index-list-k-in-TooDeep.result
    ≡ get_or c.in_ok-cut.cut.list c.in-TooDeep.k c.index-list-k-in-TooDeep.result =
    rw c.as_slice-list.ensures at c.index-list-k-in-TooDeep.is in
    rw c.place_of-in-TooDeep.ensures
    (deep-as c.args.text.now c.in_ok-cut.cut c.in-TooDeep.k c.index-list-k-in-TooDeep.result c.in_ok-cut.ensures.value
    deep
    (token-at c.in_ok-cut.cut.list c.in-TooDeep.k c.index-list-k-in-TooDeep.result
    (deep-there c.in_ok-cut.cut.list c.in-TooDeep.k deep) token))
