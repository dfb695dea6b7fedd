use Rattle.std.proofs.Common.{rules, ◌≡◌, true, false, length, replicate, set, position, option_copied, ap, sym, ◌∙◌}
use Rattle.message_wires.specs.Wires.{is_sending}
use Rattle.posted_letters.proofs.OnBus.{none_told, next_at, next_none, next_past}
use Rattle.posted_letters.proofs.bus.Bus.on_bus.Goals as goal
use Rattle.posted_letters.proofs.bus.Bus.on_bus.Goals.{in-Some+in-Some-place_of, in-Some+in_default-place_of}
use Rattle.posted_letters.proofs.bus.Bus.on_bus.Goals.{in_default}

pub loop-k-init : goal.loop-k-init
loop-k-init c =
    let made : c.in_ok-on_bus.on_bus.items ≡ replicate (length c.args.owed.now) false = search rules in
    made ∙ none_told c.args.owed.now

pub loop-k-preserved : goal.loop-k-preserved
loop-k-preserved c =
    elim c.match-get.branch [
      | in-Some+in-Some-place_of w ↦
          let there = sym c.get.ensures ∙ ap option_copied w.in-Some.is in
          let at = ap (λ n. position (is_sending n) c.args.owed.now) (sym w.number.ensures)
          ∙ sym w.place_of.ensures.value
          ∙ w.in-Some-place_of.is in
          ap (λ v. v.items) w.on_bus-is ∙ ap (λ bs. set bs w.in-Some-place_of.place true) c.loop-k.invariant
          ∙ sym (next_at c.loop-k.k w.in-Some-place_of.place c.args.self.now w.in-Some.packet.now c.args.owed.now
          c.requires there at)
      | in-Some+in_default-place_of w ↦
          let there = sym c.get.ensures ∙ ap option_copied w.in-Some.is in
          let at = ap (λ n. position (is_sending n) c.args.owed.now) (sym w.number.ensures)
          ∙ sym w.place_of.ensures.value
          ∙ w.in_default-place_of.is in
          ap (λ v. v.items) w.on_bus-is ∙ c.loop-k.invariant
          ∙ sym (next_none c.loop-k.k c.args.self.now w.in-Some.packet.now c.args.owed.now c.requires there at)
      | in_default w ↦
          let there = sym c.get.ensures ∙ ap option_copied w.in_default.is in
          ap (λ v. v.items) w.on_bus-is ∙ c.loop-k.invariant
          ∙ sym (next_past c.loop-k.k c.args.self.now c.args.owed.now there)
    ]
