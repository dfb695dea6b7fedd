-- Requests that are awaited at an idle end: each is at its server's copy that acts.
use Rattle.std.proofs.Common.{◌≡◌, ◌⊎◌, ◌<◌, inl, inr, ℕ, true, false, List, length, Some, slice_get, refl, sym, ◌∙◌}
use Rattle.std.proofs.Common.{subst}
use Rattle.tal_tree.specs.declared.site.ProcessSpec.{ProcessSpec}
use Rattle.tal_tree.specs.declared.site.Site.{Site}
use Rattle.tal_tree.specs.declared.site.Who.{Who}
use Rattle.plain_semantics.specs.declared.slot.Opener.{Opener}
use Rattle.plain_semantics.specs.Openers.{opener_of}
use Rattle.checkpoint_image.specs.declared.receive.RequestStanding.TheVariants.{Next, InHand}
use Rattle.checkpoint_image.specs.Receive.{standing_at}
use Rattle.world_semantics.specs.declared.role.Role.TheVariants.{Acting}
use Rattle.world_semantics.specs.declared.which.Which.{Which}
use Rattle.world_semantics.specs.declared.which.Which.TheVariants.{First, Second}
use Rattle.world_semantics.specs.Core.{Deed}
use Rattle.world_semantics.specs.World.{Copy, Pair, is_running, copy_of}
use Rattle.process_histories.specs.Histories.{HasDone}
use Rattle.process_histories.specs.Words.{answered_to}
use Rattle.letters.specs.Posts.{Post}
use Rattle.letters.specs.Routes.{route_of}
use Rattle.awaited_requests.specs.Awaited.{IsAwaited, StandsThere}
use Rattle.awaited_requests.specs.Served.{WaitsFor, HasSeen, IsServed, route_stopped, is_owed, is_seen}
use Rattle.awaited_requests.proofs.Awaited.{awaited-stands}
use Rattle.idle_end.proofs.Ends.{IsEnd, acts-runs, route-acts, asker-runs, asker-found}
use Rattle.idle_end.proofs.Unanswered.{not-answered}

-- a copy has a request that is awaited of it: it stands next there and waits, or it is in hand
abbrev pub HasRequest : Copy → Opener → ℕ → Type 0
HasRequest copy opener n =
    ((standing_at copy.core.receive opener.place n ≡ Next) × WaitsFor copy.waiting opener n)
    ⊎ (standing_at copy.core.receive opener.place n ≡ InHand)

-- so it isn't answered
pub unanswered : {site : Site} {spec : ProcessSpec} {deeds : List Deed} (copy : Copy) (opener : Opener) (n : ℕ)
    → HasDone site opener.server spec deeds copy.core
    → HasRequest copy opener n → length (answered_to opener.place deeds) < n
unanswered copy opener n done (inl (next, waits)) = not-answered opener n done (inl next)
unanswered copy opener n done (inr hand) = not-answered opener n done (inr hand)

module _ {site : Site} {events : ℕ} {post : Post} (end : IsEnd site events post) where
  same-seat : (number : ℕ) (pair : Pair) (j k : Which) → slice_get post.world.processes number ≡ Some pair
      → (copy_of j pair).processor ≡ (copy_of k pair).processor → j ≡ k
  same-seat number pair First First there same = refl
  same-seat number pair Second Second there same = refl
  same-seat number pair First Second there same = absurd ((end.seated.pairs number pair there).apart same)
  same-seat number pair Second First there same = absurd ((end.seated.pairs number pair there).apart (sym same))

  -- a request that is awaited is at its server's copy that acts: no letter is owed that could bring it or its reply
  pub at-server : (asker : ℕ) (one : Who) (n : ℕ) (opener : Opener) (pair : Pair) (k : Which)
      → opener_of site one ≡ Some opener
      → slice_get post.world.processes opener.server ≡ Some pair → (copy_of k pair).role ≡ Acting
      → IsAwaited site post.world asker one n
      → HasRequest (copy_of k pair) opener n
  at-server asker one n opener pair k opens there role awaited =
      by (end.served asker one n opener pair opens there awaited)
    where
      here : is_running post.world.stopped asker ≡ true
      here = asker-runs end awaited

      runs : is_running post.world.stopped (copy_of k pair).processor ≡ true
      runs = acts-runs end opener.server pair k there role

      route : route_of post.world.downs asker pair ≡ (copy_of k pair).processor
      route = route-acts end asker opener.server pair k here there role

      seen : HasSeen post asker one (copy_of k pair) opener n → StandsThere (copy_of k pair).core opener.place n
          → HasRequest (copy_of k pair) opener n
      seen has (inl next) = inl (next, has.next role next)
      seen has (inr (inl hand)) = inr hand
      seen has (inr (inr (words, kept))) = absurd (elim (has.kept role words kept) [
        | inl letter ↦ end.idle.owed _ letter runs here
        | inr away ↦ away (asker-found end (copy_of k pair).processor runs awaited)
      ])

      by : IsServed site post asker one n opener pair → HasRequest (copy_of k pair) opener n
      by (route_stopped stopped) =
          let down : is_running post.world.stopped (copy_of k pair).processor ≡ false =
          subst (λ node. is_running post.world.stopped node ≡ false) route stopped in
          let up = runs in absurd (cc)
      by (is_owed words letter) = absurd (end.idle.owed _ letter here
          (subst (λ node. is_running post.world.stopped node ≡ true) (sym route) runs))
      by (is_seen j at has) =
          seen (subst (λ i. HasSeen post asker one (copy_of i pair) opener n)
          (same-seat opener.server pair j k there (at ∙ route)) has)
          (awaited-stands site end.fit events post.world end.good.invariant asker one n opener pair k opens there
          awaited (λ gone. absurd (cc)) (λ blank. absurd (cc)))
