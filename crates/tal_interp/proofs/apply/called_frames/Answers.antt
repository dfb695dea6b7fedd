use Rattle.std.proofs.Common.{◌≡◌, ◌-◌, ◌+◌, suc, map, Some, sym, subst, ◌∙◌, arith, length}
use Rattle.std.proofs.lemmas.List.{map-append}
use Rattle.std.specs.Vec.{vec_len}
use Rattle.tal_table.specs.Places.{places}
use Rattle.tal_interp.specs.Images.{called_frame}
use Rattle.tal_interp.specs.SeenFrames.{frame_seen}
use Rattle.tal_interp.proofs.CalledFrames.{HasRoom, frames-turn, room-more}
use Rattle.tal_interp.proofs.apply.called_frames.Goals as goal

pub loop-turn-preserved : goal.loop-turn-preserved
loop-turn-preserved c =
    let size : c.args.count - c.loop-turn._turn ≡ suc (c.args.count - (c.loop-turn._turn + 1)) =
    omega (arith, c.loop-turn-test.true) in
    let is : called_frame c.args.table.now c.loop-turn.called c.loop-turn.left.now
    ≡ Some (frame_seen (places c.args.table.now) c.in_ok-frame.frame, c.in_ok-frame.rest.now) = c.in_ok-frame.ensures in
    record {
      read = rw (c.push_reserved.ensures.items, map-append, c.called_at-called.ensures)
          (sym (frames-turn c.args.table.now c.loop-turn.called
          (map (frame_seen (places c.args.table.now)) c.loop-turn.frames.items)
          _ _ c.loop-turn.left.now c.in_ok-frame.rest.now (frame_seen (places c.args.table.now) c.in_ok-frame.frame)
          size is)
          ∙ c.loop-turn.invariant.read);
      room = subst (λ called. HasRoom (length c.args.table.now.procedures) called (vec_len c.push_reserved.new.self))
          (sym c.called_at-called.ensures)
          (room-more c.args.table.now c.loop-turn.called (vec_len c.loop-turn.frames) (vec_len c.push_reserved.new.self)
          (frame_seen (places c.args.table.now) c.in_ok-frame.frame) c.loop-turn.left.now c.in_ok-frame.rest.now
          c.requires.loadable.ordered is (omega (arith, c.push_reserved.ensures.len)) c.loop-turn.invariant.room);
      capacity = c.push_reserved.ensures.capacity ∙ c.loop-turn.invariant.capacity;
    }
