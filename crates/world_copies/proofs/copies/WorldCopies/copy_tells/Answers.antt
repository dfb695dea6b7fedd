use Rattle.std.proofs.Common.{◌≡◌, ◌<◌, ◌≤◌, ◌∙◌, ◌++◌, ap, length, Some, slice_get, refl, sym, arith}
use Rattle.std.proofs.lemmas.List.{length-map}
use Rattle.std.proofs.lemmas.Option.{slice_get_read}
use Rattle.world_semantics.specs.Messages.{sent_at}
use Rattle.process_copies.specs.letters.specs.Again.{tells_again}
use Rattle.world_copies.specs.SiteWorld.{SiteWorld}
use Rattle.process_copies.specs.Seen.{Placed}
use Rattle.world_copies.specs.Again.{of_copy}
use Rattle.world_copies.proofs.Again.{tells-at, no-copy}
use Rattle.world_copies.proofs.copies.WorldCopies.copy_tells.Goals as goal

pub returns-then-number-len : goal.returns-then-number-len
returns-then-number-len c =
    let places = c.self.inside.processes.items in
    let pairs = c.args.self.now.world.processes in
    let same : length pairs ≡ length places =
    ap (λ (s : SiteWorld). length s.world.processes) (sym c.self.view_is)
    ∙ length-map places (λ (placed : Placed). placed.pair) in
    let past : length pairs ≤ c.args.number =
    omega (arith, same, c.if-number-len.true, c.len.ensures, c.self.inside.processes.ok.0) in
    no-copy (tells_again c.args.self.now.site c.args.self.now.world c.args.node c.args.processor) c.args.node
    c.args.number c.args.which pairs
    c.args.again.now past

pub returns : goal.returns
returns c =
    let places = c.self.inside.processes.items in
    let within : c.args.number < length places =
    omega (arith, c.if-number-len.false, c.len.ensures, c.self.inside.processes.ok.0) in
    let there : slice_get places c.args.number ≡ Some c.index.result.now =
    slice_get_read places (length places) c.args.number c.index.result.now refl within c.index.ensures in
    let w = c.args.self.now.world in
    c.in_ok-process_tells.ensures
    ∙ ap (λ messages. c.args.again.now ++ sent_at c.args.node messages)
    (tells-at w c.self.inside.site places c.args.node c.args.processor c.args.number c.args.which c.index.result.now
    c.self.invariant.0 there
    ∙ ap (λ (s : SiteWorld). of_copy (tells_again s.site w c.args.node c.args.processor) c.args.number c.args.which
    (slice_get s.world.processes c.args.number))
    c.self.view_is)
