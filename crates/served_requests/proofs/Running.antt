-- Who awaits a reply, and a copy that acts, are on nodes that run.
use Rattle.std.proofs.Common.{◌≡◌, ◌≢◌, ℕ, true, Some, slice_get, arith}
use Rattle.std.proofs.lemmas.Option.{slice_get_within}
use Rattle.tal_tree.specs.declared.site.Site.{Site}
use Rattle.tal_tree.specs.declared.site.Who.{Who}
use Rattle.world_semantics.specs.declared.role.Role.TheVariants.{Acting}
use Rattle.world_semantics.specs.declared.which.Which.{Which}
use Rattle.world_semantics.specs.World.{Pair, World, copy_of}
use Rattle.world_semantics.proofs.Reached.{gone-is}
use Rattle.letter_laws.specs.takeover_laws.proofs.Kept.{IsGood}
use Rattle.letter_laws.specs.awaited_requests.specs.Awaited.{IsAwaited, by_copy, by_terminal}
use Rattle.letter_laws.specs.awaited_requests.specs.Seats.{IsLaidOut, AreSeated}

module _ (site : Site) (events : ℕ) (w : World) (good : IsGood site events w) where
  -- the processor of a copy that acts hasn't stopped
  pub acting-runs : (number : ℕ) (pair : Pair) (k : Which) → slice_get w.processes number ≡ Some pair
      → (copy_of k pair).role ≡ Acting
      → slice_get w.stopped (copy_of k pair).processor ≢ Some true
  acting-runs number pair k there role stopped =
      let gone = (gone-is w.stopped pair (good.roles number pair there) k).1 stopped in cc

  -- nor has the node of one that awaits a reply
  pub asker-runs : (out : IsLaidOut site) → AreSeated site w → {asker : ℕ} {one : Who} {n : ℕ}
      → IsAwaited site w asker one n
      → slice_get w.stopped asker ≢ Some true
  asker-runs out seated (by_copy {number = number} pair k there role at on last) stopped =
      acting-runs number pair k there role stopped
  asker-runs out seated (by_terminal terminal there odd) stopped =
      let within = slice_get_within w.stopped _ true stopped in let few = out.few in let all = seated.processors in
      omega (arith, within, few, all)
