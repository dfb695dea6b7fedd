use Rattle.std.proofs.Common.{◌≡◌, ◌∙◌, ap, map, replicate, false, arith}
use Rattle.alive_regroup.specs.Listening.{is_calm, watch_after}
use Rattle.alive_regroup.specs.Watching.{Watching, after_tick, does_check, is_up, told_by_tick}
use Rattle.alive_regroup.proofs.Heard.{calm-checked, calm-told}
use Rattle.alive_regroup.proofs.NoneMissed.{first-of}
use Rattle.alive_regroup.proofs.listener.Listener.tick.Goals as goal

pub returns-then-not-differ-clause-told : goal.returns-then-not-differ-clause-told
returns-then-not-differ-clause-told c =
    let all : c.self.inside.heard ≡ map is_up c.self.inside.watch.neighbours =
    c.if-not-differ.ensures ∙ c.self.invariant.0 in
    let both = first-of (is_calm c.self.inside.watch) (does_check c.self.inside.watch)
    (c.self.invariant.2 c.if-self.true) in
    calm-told c.self.inside.watch both.0 both.1 c.self.inside.heard all (omega (arith, c.self.told))
    ∙ ap (λ (w : Watching). told_by_tick w) c.self.view_is

pub returns-then-not-differ-clause-after : goal.returns-then-not-differ-clause-after
returns-then-not-differ-clause-after c =
    let all : c.self.inside.heard ≡ map is_up c.self.inside.watch.neighbours =
    c.if-not-differ.ensures ∙ c.self.invariant.0 in
    let both = first-of (is_calm c.self.inside.watch) (does_check c.self.inside.watch)
    (c.self.invariant.2 c.if-self.true) in
    ap (watch_after (replicate 16 false)) c.pass.ensures
    ∙ calm-checked c.self.inside.watch both.0 both.1 c.self.inside.heard all (omega (arith, c.self.told))
    ∙ ap (λ (w : Watching). after_tick w) c.self.view_is
