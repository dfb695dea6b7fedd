use Rattle.std.proofs.Common.{◌≡◌, ◌∙◌, inl, inr, false, sym}
use Rattle.process_semantics.specs.declared.point.Point.TheVariants.{Await, Inner}
use Rattle.world_semantics.specs.Passes.{MaySend, point_at}
use Rattle.world_semantics.specs.World.{Copy}
use Rattle.reload_guards.proofs.renewing.checkpoints_are_sent_where_they_may_be.Goals as goal

not-awaiting : (copy : Copy) → point_at copy ≡ Await → MaySend copy → ⊥
not-awaiting copy is (inl at) = let same = sym is ∙ at in cc
not-awaiting copy is (inr both) = both.1 is

not-inside : (copy : Copy) → point_at copy ≡ Inner → copy.renewal ≡ false → MaySend copy → ⊥
not-inside copy is still (inl at) = let same = sym is ∙ at in cc
not-inside copy is still (inr both) = let same = sym still ∙ both.0 in cc

pub returns : goal.returns
returns c = record {
  awaits = not-awaiting;
  inner = not-inside;
  checkpoint = λ copy at. inl at;
  elsewhere = λ copy other renews. inr (renews, other);
}
