use Rattle.std.proofs.Common.{rules, ◌≡◌, ◌++◌, [], length, map, take, drop, None, Some, ap, sym, subst, ◌∙◌}
use Rattle.std.specs.Option.{option_to_list}
use Rattle.std.specs.Vec.{vec_len}
use Rattle.process_semantics.specs.Image.{restored_program}
use Rattle.process_semantics.specs.State.{Execution}
use Rattle.tal_table.specs.Places.{places}
use Rattle.tal_interp.specs.Images.{Overwrites, frames_of}
use Rattle.tal_interp.specs.SeenFrames.{frame_seen}
use Rattle.tal_interp.proofs.Restored.{alone-is, no-frames, no-count, refused, taken, restored-state, written-back}
use Rattle.tal_interp.proofs.interpreter.Interpreter.apply.Goals as goal

pub returns-in_default-clause-refused : goal.returns-in_default-clause-refused
returns-in_default-clause-refused c =
    no-frames c.args.self.now.program c.args.self.now.state c.args.in_hand c.args.words.now
    (subst (λ (e : Execution). frames_of e.program c.args.words.now ≡ None) c.self.view_is c.in_default.ensures.read)

pub returns-in_default-number_in-clause-refused : goal.returns-in_default-number_in-clause-refused
returns-in_default-number_in-clause-refused c =
    no-count c.args.self.now.program c.args.self.now.state c.args.in_hand c.args.words.now c.in-Some.left.now _
    (subst (λ (e : Execution). frames_of e.program c.args.words.now
    ≡ Some (map (frame_seen (places c.self.inside.table)) c.frames_of.new.frames.items, c.in-Some.left.now))
    c.self.view_is c.in-Some.ensures.read)
    c.in_default-number_in.ensures

pub returns-then-not-are_items-clause-refused : goal.returns-then-not-are_items-clause-refused
returns-then-not-are_items-clause-refused c =
    subst (λ (e : Execution). restored_program e.program c.args.self.now.state c.args.in_hand c.args.words.now ≡ None)
    c.self.view_is
    (refused c.self.inside.table c.args.self.now.state c.args.in_hand c.args.words.now c.in-Some.left.now
    c.in-Some-number_in.left.now _
    c.in-Some-number_in.count c.in-Some.ensures.read c.in-Some-number_in.ensures
    (sym c.are_items.ensures ∙ c.if-not-are_items.true))

pub returns-clause-applied : goal.returns-clause-applied
returns-clause-applied c =
    let image = taken c.self.inside.table c.args.self.now.state c.args.in_hand c.args.words.now c.in-Some.left.now
    c.in-Some-number_in.left.now
    (map (frame_seen (places c.self.inside.table)) c.frames_of.new.frames.items) c.in-Some-number_in.count
    c.in-Some.ensures.read
    c.in-Some-number_in.ensures (sym c.are_items.ensures ∙ c.if-not-are_items.false) in
    let there : c.args.self.now.state.globals ≡ c.deref_mut.result.now =
    ap (λ (e : Execution). e.state.globals) (sym c.self.view_is) ∙ sym c.deref_mut.ensures.value in
    let put : c.overwrite_items.new.globals ≡ image.globals =
    c.overwrite_items.ensures image.globals
    (subst (λ globals. Overwrites c.self.inside.table globals c.in-Some-number_in.left.now image.globals) there
    image.holds) in
    let back : take c.self.inside.globals.len
    (c.overwrite_items.new.globals ++ drop (length c.overwrite_items.new.globals) c.self.inside.globals.items)
    ≡ c.overwrite_items.new.globals =
    written-back c.self.inside.globals.len c.overwrite_items.new.globals c.self.inside.globals.items
    (sym c.deref_mut.ensures.len ∙ ap length c.deref_mut.ensures.value)
    (c.overwrite_items.auto.globals ∙ ap length c.deref_mut.ensures.value) in
    let all : c.frames_of.new.frames.items ≡ c.swap.new.x.items ++ option_to_list c.pop-self-inside.result =
    c.pop-self-inside.ensures.items ∙ ap (λ callers. callers.items ++ option_to_list c.pop-self-inside.result)
    (sym c.swap.ensures.x_after) in
    let alone : (c.pop-self-inside.result ≡ None → c.swap.new.x.items ≡ []) =
    alone-is c.pop-self-inside.result c.swap.new.x.items c.frames_of.new.frames.items (vec_len c.frames_of.new.frames)
    (search rules) all
    (ap (λ callers. callers.items) c.swap.ensures.x_after ∙ c.pop-self-inside.ensures.rest) in
    sym (ap (λ (e : Execution). restored_program e.program c.args.self.now.state c.args.in_hand c.args.words.now)
    c.self.view_is)
    ∙ (image.is ∙ ap Some (restored-state (places c.self.inside.table) c.pop-self-inside.result c.swap.new.x.items
    c.frames_of.new.frames.items c.args.in_hand
    image.globals _ all alone (sym put ∙ sym back)))
