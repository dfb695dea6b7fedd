use Rattle.std.proofs.Common.{sym, ap, ◌∙◌}
use Rattle.std.specs.Option.{option_copied_mut}
use Rattle.node_links.proofs.Timed.{IsTimed-set}
use Rattle.node_links.proofs.links.Links.replied.Goals as goal
use Rattle.node_links.proofs.links.Links.replied.Goals.{in-Some, in-None}

pub invariant_of-self : goal.invariant_of-self
invariant_of-self c =
    elim c.match-get_mut.branch [
      | in-Some w ↦
          let stood = sym c.get_mut.ensures.value ∙ ap option_copied_mut w.in-Some.is in
          rw w.self-inside-is (IsTimed-set _ _ _ w.in-Some.link.now _ stood
          (ap (λ link. link.opened) w.keep_reply.ensures.after) c.self.invariant)
      | in-None w ↦ rw w.self-inside-is c.self.invariant
    ]
