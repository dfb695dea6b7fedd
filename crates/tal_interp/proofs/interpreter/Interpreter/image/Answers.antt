use Rattle.std.proofs.Common.{arith}
use Rattle.tal_table.specs.process_images.proofs.FewFrames.{frames-few}
use Rattle.tal_interp.proofs.Imaged.{frames-below, items-below, items-few, image-parts}
use Rattle.tal_interp.proofs.interpreter.Interpreter.image.Goals as goal

pub put_frames-requires-clause-few : goal.put_frames-requires-clause-few
put_frames-requires-clause-few c =
    let s = c.requires.sound in
    let few = frames-few c.args.self.now.program s.loaded.ordered c.args.self.now.state.frames s.whole.frames in
    let most = s.loaded.limits.procedures.1 in omega (arith, few, most)

pub put_frames-requires-clause-procedures : goal.put_frames-requires-clause-procedures
put_frames-requires-clause-procedures c = let s = c.requires.sound in
    frames-below c.args.self.now.program c.args.self.now.state.frames s.loaded.limits s.whole.frames

pub put_items-requires-clause-few : goal.put_items-requires-clause-few
put_items-requires-clause-few c = items-few c.args.self.now.program c.args.items.now c.requires.listed.0
    c.requires.sound.loaded.limits c.requires.listed.1

pub put_items-requires-clause-numbers : goal.put_items-requires-clause-numbers
put_items-requires-clause-numbers c =
    items-below c.args.self.now.program c.args.items.now c.requires.listed.0 c.requires.sound.loaded.limits
    c.requires.listed.1

pub returns : goal.returns
returns c =
    image-parts c.args.self.now.program c.args.self.now.state c.args.items.now c.put_frames.new.out c.put_items.new.out
    c.requires.sound.whole.ended
    (rw (c.from_vec-all.ensures, c.in_ok-with_capacity.ensures.items) at c.in_ok-put_frames.ensures)
    c.in_ok-put_items.ensures
