use Rattle.std.proofs.Common.{◌≡◌, ◌-◌, length, map, Some, vec_capacity, vec_len}
use Rattle.tal_table.specs.Places.{places}
use Rattle.tal_interp.specs.Images.{called_frames}
use Rattle.tal_interp.specs.SeenFrames.{frame_seen}
use Rattle.tal_interp.proofs.CalledFrames.{HasRoom, onto}
use Rattle.tal_interp.proofs.apply.called_frames.Given as goal

abbrev pub invariant-loop-turn : goal.invariant-loop-turn
invariant-loop-turn l = record {
  read : onto (map (frame_seen (places l.table)) l.frames.items)
      (called_frames l.table l.called (l.count - l._turn) l.left)
      ≡ called_frames l.table (Some l.table.main) l.count l.words;
  room : HasRoom (length l.table.procedures) l.called (vec_len l.frames);
  capacity : vec_capacity l.frames ≡ vec_capacity l.fn.frames;
}
