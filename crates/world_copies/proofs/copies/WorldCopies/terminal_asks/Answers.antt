use Rattle.std.proofs.Common.{◌≡◌, ◌<◌, ◌≤◌, ◌∙◌, ◌++◌, ap, length, Some, slice_get, refl, sym, arith}
use Rattle.std.proofs.lemmas.Option.{slice_get_read}
use Rattle.world_semantics.specs.Messages.{sent_at}
use Rattle.world_copies.specs.SiteWorld.{SiteWorld}
use Rattle.world_copies.specs.Again.{of_terminal, terminal_asking}
use Rattle.world_copies.proofs.Again.{no-terminal, terminal-asks}
use Rattle.world_copies.proofs.copies.WorldCopies.terminal_asks.Goals as goal

pub returns-then-number-len : goal.returns-then-number-len
returns-then-number-len c =
    let terminals = c.args.self.now.world.terminals in
    let same : length terminals ≡ length c.self.inside.terminals.items =
    ap (λ (s : SiteWorld). length s.world.terminals) (sym c.self.view_is) in
    let past : length terminals ≤ c.args.number =
    omega (arith, same, c.if-number-len.true, c.len.ensures, c.self.inside.terminals.ok.0) in
    no-terminal (terminal_asking c.args.self.now.site c.args.self.now.world c.args.node c.args.processor) c.args.node
    c.args.number terminals
    c.args.again.now past

pub returns : goal.returns
returns c =
    let terminals = c.self.inside.terminals.items in
    let within : c.args.number < length terminals =
    omega (arith, c.if-number-len.false, c.len.ensures, c.self.inside.terminals.ok.0) in
    let there : slice_get terminals c.args.number ≡ Some c.index-terminal.result.now =
    slice_get_read terminals (length terminals) c.args.number c.index-terminal.result.now refl within
    c.index-terminal.ensures in
    let w = c.args.self.now.world in
    let site = c.args.self.now.site in
    c.in_ok-ask.ensures
    ∙ ap (λ messages. c.args.again.now ++ sent_at c.args.node messages)
    (terminal-asks w site terminals c.args.node c.args.processor c.args.number c.index-terminal.result.now
    c.awaited_from-request.result there
    c.awaited_from-request.ensures
    ∙ ap (λ (s : SiteWorld). of_terminal (terminal_asking site w c.args.node c.args.processor) c.args.number
    (slice_get s.world.terminals c.args.number))
    c.self.view_is)
