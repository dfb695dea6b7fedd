-- A letter that may be dropped, since it changes nothing where it comes, is one that no awaited request stands in need
-- of.
use Rattle.std.proofs.Common.{◌≡◌, ◌⊎◌, inl, inr, ℕ, ℤ, true, List, Some, slice_get, refl, ap, sym, subst}
use Rattle.gd_words.specs.Members.{IsAmong}
use Rattle.tal_tree.specs.declared.act.Act.TheVariants as act
use Rattle.tal_tree.specs.declared.site.Site.{Site}
use Rattle.tal_tree.specs.declared.site.Who.{Who}
use Rattle.plain_semantics.specs.declared.slot.Opener.{Opener}
use Rattle.plain_semantics.specs.Openers.{opener_of}
use Rattle.world_semantics.specs.declared.role.Role.{Role}
use Rattle.world_semantics.specs.declared.role.Role.TheVariants.{Acting, Watching, Blank, Gone}
use Rattle.world_semantics.specs.declared.which.Which.{Which}
use Rattle.world_semantics.specs.Core.{gets}
use Rattle.world_semantics.specs.Follows.{IsIdleFor}
use Rattle.world_semantics.specs.Messages.{Asking, Replying, Handing}
use Rattle.world_semantics.specs.Own.{by_reply}
use Rattle.world_semantics.specs.Rules.{by_own, by_request, by_early_request, by_print}
use Rattle.world_semantics.specs.World.{Pair, World, is_running, copy_of, receives}
use Rattle.world_semantics.proofs.Reached.{gone-is}
use Rattle.world_semantics.proofs.Running.{enters-as}
use Rattle.letter_laws.specs.takeover_laws.proofs.Kept.{IsGood}
use Rattle.letter_laws.specs.computed_changes.specs.Laws.{IsSent}
use Rattle.letters.specs.Posts.{IsTaken, takes_first, takes_later}
use Rattle.letters.specs.Routes.{Letter, route_of}
use Rattle.letters.proofs.Owed.{taken-there}
use Rattle.letter_laws.specs.awaited_requests.specs.Awaited.{IsAwaited, by_copy, by_terminal}
use Rattle.letter_laws.specs.awaited_requests.specs.Served.{reply_of, request_of, IsServed, route_stopped, is_owed}
use Rattle.letter_laws.specs.awaited_requests.specs.Served.{is_seen, AreServed}
use Rattle.letter_laws.specs.Known.{IsHonest}
use Rattle.served_requests.proofs.Routes.{route-where, rests-stopped}

-- a letter of a list is the one that is taken from it, or one of the rest
pub taken-or : {letter : Letter} {letters rest : List Letter} (other : Letter) → IsTaken letter letters rest
    → IsAmong other letters
    → (other ≡ letter) ⊎ IsAmong other rest
taken-or other takes_first among = among
taken-or other (takes_later taken) (inl same) = inr (inl same)
taken-or other (takes_later taken) (inr later) =
    elim (taken-or other taken later) [ inl same ↦ inl same | inr among ↦ inr (inr among) ]

module _ (site : Site) (events : ℕ) (w : World) (good : IsGood site events w) where
  -- a request that comes where it is routed changes something
  request-taken : (asker n : ℕ) (opener : Opener) (pair : Pair) (words : List ℤ)
      → slice_get w.processes opener.server ≡ Some pair
      → is_running w.stopped (route_of w.downs asker pair) ≡ true → IsAmong (request_of opener n words) w.requests
      → IsIdleFor site w (Handing (route_of w.downs asker pair) (Asking (request_of opener n words))) → ⊥
  request-taken asker n opener pair words there runs sent idle =
      by (copy_of to.0 pair).role refl (subst (λ p. IsIdleFor site w (Handing p (Asking (request_of opener n words))))
      (sym to.1) idle)
    where
      to : (k : Which) × ((copy_of k pair).processor ≡ route_of w.downs asker pair)
      to = route-where w.downs asker pair

      by : (role : Role) → (copy_of to.0 pair).role ≡ role
          → IsIdleFor site w (Handing (copy_of to.0 pair).processor (Asking (request_of opener n words))) → ⊥
      by Acting role none = none _ _ (by_request (request_of opener n words) to.0 pair sent there role)
      by Watching role none =
          none _ _ (by_early_request (request_of opener n words) to.0 pair sent there (ap receives role))
      by Blank role none =
          none _ _ (by_early_request (request_of opener n words) to.0 pair sent there (ap receives role))
      by Gone role none =
          let stopped = rests-stopped w.stopped (copy_of to.0 pair).processor
          ((gone-is w.stopped pair (good.roles opener.server pair there) to.0).0 role) in
          let lives : is_running w.stopped (copy_of to.0 pair).processor ≡ true = rw to.1 runs in
          cc

  -- a reply that comes where it is awaited changes something
  reply-taken : (asker : ℕ) (one : Who) (n : ℕ) (opener : Opener) (words : List ℤ) → opener_of site one ≡ Some opener
      → IsAwaited site w asker one n
      → IsAmong (reply_of opener n words) w.replies
      → IsIdleFor site w (Handing asker (Replying (reply_of opener n words))) → ⊥
  reply-taken asker one n opener words opens (by_copy {number = number} pair k there role at on last) sent idle =
      idle _ _ (by_own number k pair there role (by_reply {reply = reply_of opener n words} sent opens (sym last) refl)
      (gets at (sym on))
      (enters-as number (act.Step number) w.kept (copy_of k pair)) tt)
  reply-taken asker one n opener words opens (by_terminal {number = number} terminal there odd) sent idle =
      idle _ _ (by_print number terminal (reply_of opener terminal.entered words) there odd sent opens refl)

  -- so a letter that changes nothing is dropped, and all is served as it was
  pub drop-served : (owed sent rest : List Letter) (letter : Letter)
      → IsHonest site (record { world = w; owed = owed; sent = sent })
      → AreServed site (record { world = w; owed = owed; sent = sent }) → IsTaken letter owed rest
      → is_running w.stopped letter.receiver ≡ true → IsIdleFor site w (Handing letter.receiver letter.message)
      → AreServed site (record { world = w; owed = rest; sent = sent })
  drop-served owed sent rest letter honest served taken runs idle asker one n opener pair opens there awaited =
      by (served asker one n opener pair opens there awaited)
    where
      was_sent : IsSent w letter.message
      was_sent = honest.letters letter (honest.owed letter (taken-there taken))

      by : IsServed site (record { world = w; owed = owed; sent = sent }) asker one n opener pair
          → IsServed site (record { world = w; owed = rest; sent = sent }) asker one n opener pair
      by (route_stopped rests) = route_stopped rests
      by (is_owed words among) = elim (taken-or _ taken among) [
        | inr left ↦ is_owed words left
        | inl same ↦ absurd (request-taken asker n opener pair words there
            (subst (λ l. is_running w.stopped l.receiver ≡ true) (sym same) runs)
            (subst (λ l. IsSent w l.message) (sym same) was_sent)
            (subst (λ l. IsIdleFor site w (Handing l.receiver l.message)) (sym same) idle))
      ]
      by (is_seen k at has) = is_seen k at (record {
        watching = has.watching;
        next = has.next;
        kept = λ role words is. elim (has.kept role words is) [
          | inr away ↦ inr away
          | inl among ↦ elim (taken-or _ taken among) [
            | inr left ↦ inl left
            | inl same ↦ absurd (reply-taken asker one n opener words opens awaited
                (subst (λ l. IsSent w l.message) (sym same) was_sent)
                (subst (λ l. IsIdleFor site w (Handing l.receiver l.message)) (sym same) idle))
          ]
        ];
      })
