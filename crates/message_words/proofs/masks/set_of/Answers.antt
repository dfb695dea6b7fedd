use Rattle.std.proofs.Common.{◌≡◌, ◌+◌, ◌-◌, ◌<◌, ◌≤◌, ◌%◌, ◌==◌, ◌∙◌, length, take, sym, arith, length-set}
use Rattle.std.proofs.Common.{append-nil}
use Rattle.std.proofs.lemmas.List.{take_all}
use Rattle.message_words.proofs.Bits.{bit-more}
use Rattle.message_words.proofs.masks.set_of.Goals as goal

pub loop-place-preserved : goal.loop-place-preserved
loop-place-preserved c =
    let loop = c.loop-place in
    let all : length loop.members ≡ 16 = loop.invariant.all in
    let within : loop.place < length loop.members = omega arith in
    let less : 16 - (loop.place + 1) ≡ 16 - loop.place - 1 = omega arith in record {
      all = length-set loop.members loop.place (loop.left % 2 == 1) ∙ all;
      read =
          rw less (bit-more loop.members loop.place loop.left (16 - loop.place) within (omega arith)
          ∙ loop.invariant.read);
    }

pub returns : goal.returns
returns c =
    let loop = c.loop-place in
    let past : 16 ≤ loop.place = omega arith in
    let all : length loop.members ≤ loop.place = omega (arith, loop.invariant.all) in
    let none : 16 - loop.place ≡ 0 = omega arith in
    sym (take_all loop.place loop.members all)
    ∙ sym (append-nil (take loop.place loop.members))
    ∙ rw none at loop.invariant.read
