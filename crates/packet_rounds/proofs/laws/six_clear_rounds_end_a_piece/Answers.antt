use Rattle.std.proofs.Common.{◌≡◌, suc, ◌+◌, subst, arith}
use Rattle.round_laws.specs.Stretches.{BeginsRound}
use Rattle.packet_rounds.specs.Played.{sizes_of}
use Rattle.packet_rounds.proofs.Rounds.{lines-end}
use Rattle.packet_rounds.proofs.laws.six_clear_rounds_end_a_piece.Goals as goal

pub returns : goal.returns
returns c site low events start played counts counted rule drain left rest before now agenda there s first =
    lines-end site low events start played counts counted rule drain left 2 rest before now agenda there s
    (subst (λ all. BeginsRound (sizes_of site) (counts start) agenda rule all rest)
    (let same : left + 6 ≡ left + suc (suc (suc (suc 2))) = omega arith in same) first)
