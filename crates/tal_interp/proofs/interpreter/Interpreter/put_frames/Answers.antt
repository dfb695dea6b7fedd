use Rattle.std.proofs.Common.{rules, arith, to_z, ◌≡◌, ◌≤◌, ◌<◌, ◌++◌, List, ◌∷◌, [], length, reverse, flat_map, pos}
use Rattle.std.proofs.Common.{Some, ap, sym, subst, ◌∙◌, ◌+◌}
use Rattle.std.proofs.lemmas.Int.{ints}
use Rattle.std.specs.Int.{w16}
use Rattle.std.specs.List.{All}
use Rattle.process_semantics.specs.Image.{frame_words}
use Rattle.process_semantics.specs.State.{Frame, Execution}
use Rattle.tal_table.specs.Places.{places}
use Rattle.tal_interp.specs.Images.{imaged_frames}
use Rattle.tal_interp.specs.SeenFrames.{frame_seen, frames_seen}
use Rattle.tal_interp.specs.declared.frame.Frame.{Frame as Kept}
use Rattle.tal_interp.proofs.Imaged.{callers-below, callers-few, running-below, frames-put}
use Rattle.tal_interp.proofs.interpreter.Interpreter.put_frames.Goals as goal

pub put_callers-requires : goal.put_callers-requires
put_callers-requires c =
    let kept : All (λ (frame : Frame). frame.procedure < 64)
    (frames_seen (places c.self.inside.table) (Some c.in-Some.running) c.self.inside.callers.items) =
    subst (λ running. All (λ (frame : Frame). frame.procedure < 64)
    (frames_seen (places c.self.inside.table) running c.self.inside.callers.items))
    c.in-Some.is
    (subst (λ (e : Execution). All (λ (frame : Frame). frame.procedure < 64) e.state.frames) (sym c.self.view_is)
    c.requires.procedures) in
    subst (λ (callers : List Kept). All (λ (caller : Kept). caller.procedure < 64) callers)
    (sym c.as_slice.ensures.value)
    (callers-below (places c.self.inside.table) c.in-Some.running c.self.inside.callers.items kept)

pub put_frame-requires-clause-procedure : goal.put_frame-requires-clause-procedure
put_frame-requires-clause-procedure c =
    running-below (places c.self.inside.table) c.in-Some.running c.self.inside.callers.items
    (subst (λ running. All (λ (frame : Frame). frame.procedure < 64)
    (frames_seen (places c.self.inside.table) running c.self.inside.callers.items))
    c.in-Some.is
    (subst (λ (e : Execution). All (λ (frame : Frame). frame.procedure < 64) e.state.frames) (sym c.self.view_is)
    c.requires.procedures))

pub returns-in_ok-put_frame-in-Some : goal.returns-in_ok-put_frame-in-Some
returns-in_ok-put_frame-in-Some c =
    let frames : length (frames_seen (places c.self.inside.table) c.self.inside.running c.self.inside.callers.items)
    ≤ 64 =
    subst (λ (e : Execution). length e.state.frames ≤ 64) (sym c.self.view_is) c.requires.few in
    let few : length c.self.inside.callers.items + 1 ≤ 64 =
    callers-few (places c.self.inside.table) c.in-Some.running c.self.inside.callers.items
    (subst (λ running. length (frames_seen (places c.self.inside.table) running c.self.inside.callers.items) ≤ 64)
    c.in-Some.is frames) in
    let many : c.len.result ≡ length c.self.inside.callers.items = search rules in
    let word : to_z w16 (c.len.result + 1) ≡ pos (length c.self.inside.callers.items + 1) =
    omega (arith, ints, few, many) in
    let first : c.push-in-Some.new.self ≡ c.args.out.now ++ pos (length c.self.inside.callers.items + 1) ∷ [] =
    c.in_ok-push-in-Some.ensures.ok ∙ ap (λ z. c.args.out.now ++ z ∷ []) word in
    let second : c.put_callers.new.out ≡ c.push-in-Some.new.self
    ++ flat_map (λ caller. frame_words (frame_seen (places c.self.inside.table) caller)) c.self.inside.callers.items =
    subst (λ callers. c.put_callers.new.out ≡ c.push-in-Some.new.self
    ++ flat_map (λ caller. frame_words (frame_seen (places c.self.inside.table) caller)) callers)
    c.as_slice.ensures.value
    c.in_ok-put_callers-in-Some.ensures in
    subst (λ (e : Execution). c.put_frame.new.out
    ≡ c.args.out.now ++ pos (length e.state.frames) ∷ flat_map frame_words (reverse (imaged_frames e.state.frames)))
    c.self.view_is
    (subst (λ running. c.put_frame.new.out ≡ c.args.out.now
    ++ pos (length (frames_seen (places c.self.inside.table) running c.self.inside.callers.items))
    ∷ flat_map frame_words (reverse (imaged_frames
    (frames_seen (places c.self.inside.table) running c.self.inside.callers.items)))) (sym c.in-Some.is)
    (c.in_ok-put_frame-in-Some.ensures
    ∙ ap (λ words. words ++ pos c.in-Some.running.procedure ∷ pos c.imaged_next.result ∷ c.in-Some.running.locals)
    (second ∙ ap (λ words. words ++ flat_map (λ caller. frame_words (frame_seen (places c.self.inside.table) caller))
    c.self.inside.callers.items) first)
    ∙ frames-put (places c.self.inside.table) c.in-Some.running c.self.inside.callers.items c.imaged_next.result
    c.args.out.now c.imaged_next.ensures.next))
