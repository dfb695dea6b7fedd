-- What copies that act can do at an idle end: nothing but take a request or get a reply, and so only what others bring
-- them.
use Rattle.std.proofs.Common.{◌≡◌, ◌≢◌, inl, inr, ℕ, ◌||◌, Bool, true, false, Some, slice_get, refl}
use Rattle.std.proofs.lemmas.Bool.{cases_lt}
use Rattle.gd_words.specs.declared.device.DeviceCall.{DeviceCall}
use Rattle.gd_words.specs.declared.device.DeviceCall.TheVariants as call
use Rattle.tal_tree.specs.declared.act.Act.TheVariants.{Step}
use Rattle.tal_tree.specs.declared.site.Site.{Site}
use Rattle.process_semantics.specs.declared.point.Point.TheVariants as point
use Rattle.process_semantics.specs.Process as process
use Rattle.plain_semantics.specs.Openers.{openers_of}
use Rattle.world_semantics.specs.declared.role.Role.TheVariants.{Acting}
use Rattle.world_semantics.specs.declared.which.Which.{Which}
use Rattle.world_semantics.specs.Core.{Core, Deed, Took, Got, Advances, goes, checkpoints, takes, asks, gets}
use Rattle.world_semantics.specs.Core.{answers, acts}
use Rattle.world_semantics.specs.Kept.{own_acts}
use Rattle.world_semantics.specs.Own.{by_inner, by_ask, by_answer, by_device, by_write, is_new_write}
use Rattle.world_semantics.specs.Passes.{by_send, by_pass, by_pass_again}
use Rattle.world_semantics.specs.Messages.{Running}
use Rattle.world_semantics.specs.Rules.{IsFreeFor, by_own, by_checkpoint}
use Rattle.world_semantics.specs.World.{Pair, has_marked, may_pass, copy_of, other_of}
use Rattle.world_semantics.proofs.Running.{enters-as}
use Rattle.letters.specs.Posts.{Post}
use Rattle.idle_end.proofs.Ends.{IsEnd}

-- a deed that takes something in
abbrev pub TakesIn : Deed → Type 0
TakesIn (Took place words) = Unit {0}
TakesIn (Got file words) = Unit {0}
TakesIn _ = ⊥

module _ {site : Site} {events : ℕ} {post : Post} (end : IsEnd site events post) where
  -- a copy that acts and awaits no reply has nothing to send: it could send it
  pub free : (number : ℕ) (pair : Pair) (k : Which) → slice_get post.world.processes number ≡ Some pair
      → (copy_of k pair).role ≡ Acting
      → process.point (copy_of k pair).core.state ≢ point.Await → IsFreeFor (Running number) (copy_of k pair)
  free number pair k there role away =
      (end.idle.waits number pair k there role, by (copy_of k pair).renewal refl)
    where
      by : (renews : Bool) → (copy_of k pair).renewal ≡ renews → renews ≡ false
      by false is = refl
      by true is =
          absurd (end.idle.runs number _ _ (by_checkpoint number pair there
          (by_send k role (inr (is, away)) (end.idle.waits number pair k there role)
          (end.renewing number pair k there is))))

  downs-none : (number : ℕ) (pair : Pair) (k : Which) → slice_get post.world.processes number ≡ Some pair
      → (copy_of k pair).role ≡ Acting
      → process.point (copy_of k pair).core.state ≡ point.AtCheckpoint → ⊥
  downs-none number pair k there role at =
      by (has_marked post.world.downs (copy_of k pair).processor (copy_of (other_of k) pair).processor) refl
    where
      or-else : (one : Bool) {other : Bool} → other ≡ true → (one || other) ≡ true
      or-else true is = refl
      or-else false is = is

      by : (marked : Bool) → has_marked post.world.downs (copy_of k pair).processor
          (copy_of (other_of k) pair).processor ≡ marked → ⊥
      by false is = end.idle.runs number _ _ (by_checkpoint number pair there
          (by_send k role (inl at) (end.idle.waits number pair k there role) is))
      by true is =
          let may : may_pass post.world.downs k pair ≡ true = or-else (copy_of k pair).acknowledged is in
          elim (cases_lt (copy_of k pair).position (own_acts number post.world.kept)) [
            | inl less ↦ end.idle.runs number _ _ (by_checkpoint number pair there (by_pass_again k role at may less))
            | inr most ↦ end.idle.runs number _ _ (by_checkpoint number pair there (by_pass k role at may most))
          ]

  calls-none : (number : ℕ) (pair : Pair) (k : Which) → slice_get post.world.processes number ≡ Some pair
      → (copy_of k pair).role ≡ Acting
      → process.point (copy_of k pair).core.state ≡ point.Device → (asked : DeviceCall)
      → asked ≡ process.call_of (copy_of k pair).core.state
      → (new : Bool) → is_new_write pair.sectors asked ≡ new → ⊥
  calls-none number pair k there role at asked same false is =
      end.idle.runs number _ _ (by_own number k pair there role (by_device is) (acts at same)
      (enters-as number (Step number) post.world.kept (copy_of k pair))
      (free number pair k there role (λ awaits. cc)))
  calls-none number pair k there role at (call.Write sector words write) same true is =
      end.idle.runs number _ _ (by_own number k pair there role (by_write is) (acts at same)
      (enters-as number (Step number) post.world.kept (copy_of k pair))
      (free number pair k there role (λ awaits. cc)))
  calls-none number pair k there role at call.Nothing same true is = cc
  calls-none number pair k there role at (call.Read sector) same true is = cc

  -- a copy that acts can do nothing but take something in
  pub takes-in : (number : ℕ) (pair : Pair) (k : Which) {deed : Deed} {next : Core}
      → slice_get post.world.processes number ≡ Some pair → (copy_of k pair).role ≡ Acting
      → Advances (openers_of site number) (copy_of k pair).core deed next → TakesIn deed
  takes-in number pair k there role (goes at) =
      absurd (end.idle.runs number _ _ (by_own number k pair there role by_inner (goes at)
      (enters-as number (Step number) post.world.kept (copy_of k pair))
      (free number pair k there role (λ awaits. cc))))
  takes-in number pair k there role (checkpoints at) = absurd (downs-none number pair k there role at)
  takes-in number pair k there role (takes block at known) = tt
  takes-in number pair k there role (asks at named said) =
      absurd (end.idle.runs number _ _ (by_own number k pair there role by_ask (asks at named said)
      (enters-as number (Step number) post.world.kept (copy_of k pair))
      (free number pair k there role (λ awaits. cc))))
  takes-in number pair k there role (gets at named) = tt
  takes-in number pair k there role (answers opener block at hand known placed said) =
      absurd (end.idle.runs number _ _ (by_own number k pair there role (by_answer placed)
      (answers opener block at hand known placed said)
      (enters-as number (Step number) post.world.kept (copy_of k pair))
      (free number pair k there role (λ awaits. cc))))
  takes-in number pair k there role (acts {call = asked} at same) =
      absurd (calls-none number pair k there role at asked same (is_new_write pair.sectors asked) refl)
