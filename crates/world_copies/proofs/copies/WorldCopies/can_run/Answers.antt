use Rattle.std.proofs.Common.{◌≡◌, ◌∙◌, Some, ap, arith, is_some, refl, slice_get, sym}
use Rattle.std.proofs.lemmas.Option.{slice_get_read}
use Rattle.world_copies.specs.SiteWorld.{SiteWorld}
use Rattle.world_semantics.specs.Running.{run_done}
use Rattle.world_semantics.specs.Records.{records_of}
use Rattle.world_copies.specs.contracts.copies.WorldCopies.{the_view}
use Rattle.world_copies.proofs.Lookups.{runs-found}
use Rattle.world_copies.proofs.copies.WorldCopies.can_run.Goals as goal

there : (c : goal.After-can_run) → slice_get c.self.inside.processes.items c.args.number ≡ Some c.index.result.now
there c = slice_get_read c.self.inside.processes.items _ _ _ refl (omega (arith, c.self.inside.processes.ok.0))
    c.index.ensures

pub returns : goal.returns
returns c =
    c.can_run.ensures (records_of (the_view c.self.inside).world)
    ∙ sym (runs-found (the_view c.self.inside).site c.self.inside.processes.items (the_view c.self.inside).world
    c.args.number c.index.result.now refl
    (there c) (c.self.invariant.0 _ _ (there c)).0 (c.self.invariant.0 _ _ (there c)).1)
    ∙ ap (λ (s : SiteWorld). is_some (run_done s.site c.args.number s.world)) c.self.view_is
