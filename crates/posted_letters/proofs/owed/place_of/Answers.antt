use Rattle.std.proofs.Common.{rules, ltb, arith, tests}
use Rattle.std.proofs.lemmas.Grind.{common_steps}
use Rattle.std.proofs.lemmas.List.Sorted.{IsPartitionedBy-ltb, IsPartitionPoint-from_clause}
use Rattle.message_wires.specs.Wires.{Sent}
use Rattle.posted_letters.proofs.Places.{absent, found, missing, never_falls}
use Rattle.posted_letters.proofs.owed.place_of.Goals as goal
use Rattle.posted_letters.proofs.owed.place_of.Goals.{else-place-owed-via-then-place-owed+else-is_sending}
use Rattle.posted_letters.proofs.owed.place_of.Goals.{else-place-owed-via-else-place-owed}

pub returns-then-is_sending-clause-value : goal.returns-then-is_sending-clause-value
returns-then-is_sending-clause-value c =
    let parted = IsPartitionPoint-from_clause (λ (one : Sent). ltb one.number c.args.number) c.args.owed.now
    c.partition_point-place.result c.partition_point-place.ensures.partitioned
    (IsPartitionedBy-ltb (λ (one : Sent). one.number) c.args.owed.now c.args.number
    (never_falls c.args.owed.now c.requires)) (λ a r f' k. search rules) in
    found c.args.number c.partition_point-place.result c.args.owed.now c.index-owed-place.result parted (search rules)
    (grind (arith, common_steps, c.index-owed-place.is, c.is_sending.ensures, c.if-is_sending.true))

pub returns-else-place-owed-clause-value : goal.returns-else-place-owed-clause-value
returns-else-place-owed-clause-value c =
    let parted = IsPartitionPoint-from_clause (λ (one : Sent). ltb one.number c.args.number) c.args.owed.now
    c.partition_point-place.result c.partition_point-place.ensures.partitioned
    (IsPartitionedBy-ltb (λ (one : Sent). one.number) c.args.owed.now c.args.number
    (never_falls c.args.owed.now c.requires)) (λ a r f' k. search rules) in
    elim c.else-place-owed.branch [
      | else-place-owed-via-then-place-owed+else-is_sending w ↦ missing c.args.number c.partition_point-place.result
          c.args.owed.now w.index-owed-place.result c.requires parted
          (λ less. grind (arith, common_steps, w.index-owed-place.is, w.is_sending.ensures, w.if-is_sending.false))
      | else-place-owed-via-else-place-owed w ↦ absent c.args.number c.partition_point-place.result c.args.owed.now
          c.requires parted
          (λ d less. grind (arith, tests, common_steps, less, w.if-place-owed.false))
    ]
