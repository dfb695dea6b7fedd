use Rattle.std.proofs.Common.{◌≡◌, inl, inr, ℕ, zero, suc, pos, List, [], ◌∷◌, Some, slice_get, refl, ap, sym, subst}
use Rattle.gd_words.specs.Members.{IsAmong}
use Rattle.tal_tree.specs.declared.site.Who.{Who}
use Rattle.tal_tree.specs.declared.site.Who.TheVariants as who
use Rattle.world_semantics.specs.plain_semantics.specs.declared.slot.Opener.{Opener}
use Rattle.world_semantics.specs.plain_semantics.specs.Openers.{opener_of}
use Rattle.takeover_laws.specs.process_semantics.specs.declared.point.Point.TheVariants as point
use Rattle.takeover_laws.specs.process_semantics.specs.Process as process
use Rattle.takeover_laws.specs.process_histories.specs.Served.{disc_site}
use Rattle.world_semantics.specs.World.{Pair, Terminal, terminal_node, copy_of}
use Rattle.world_semantics.specs.declared.role.Role.TheVariants.{Acting}
use Rattle.world_semantics.specs.declared.which.Which.{Which}
use Rattle.world_semantics.specs.declared.which.Which.TheVariants.{First, Second}
use Rattle.world_semantics.proofs.Lists.{some-same}
use Rattle.world_semantics.specs.Messages.{Asking}
use Rattle.letters.specs.Routes.{Letter}
use Rattle.awaited_requests.specs.Awaited.{IsAwaited, by_copy, by_terminal}
use Rattle.awaited_requests.specs.Examples.{disc_pair, entered, entered_with, letter_to}
use Rattle.awaited_requests.specs.Served.{request_of, IsServed, route_stopped, is_owed, is_seen}
use Rattle.awaited_requests.proofs.guards.a_lost_request_is_not_served.Goals as goal

-- no copy awaits
none-awaits : (k : Which) → (copy_of k disc_pair).role ≡ Acting
    → process.point (copy_of k disc_pair).core.state ≡ point.Await → ⊥
none-awaits First role awaits = absurd (cc)
none-awaits Second role awaits = absurd (cc)

-- the one request that is awaited is owed
all-served : (asker : ℕ) (one : Who) (n : ℕ) (opener : Opener) (pair : Pair) → opener_of disc_site one ≡ Some opener
    → slice_get (disc_pair ∷ []) opener.server ≡ Some pair → IsAwaited disc_site entered asker one n
    → IsServed disc_site (entered_with (letter_to 0 ∷ [])) asker one n opener pair
all-served asker one n opener pair opens there (by_copy {number = zero} copies k at role awaits named next) =
    absurd (none-awaits k (subst (λ (p : Pair). (copy_of k p).role ≡ Acting) (sym (some-same at)) role)
    (subst (λ (p : Pair). process.point (copy_of k p).core.state ≡ point.Await) (sym (some-same at)) awaits))
all-served asker one n opener pair opens there (by_copy {number = suc number} copies k at role awaits named next) =
    absurd (cc)
all-served asker one n opener pair opens there (by_terminal {number = zero} terminal at awaits) =
    by terminal (some-same at) opener (some-same opens) pair there
  where
    owed : IsServed disc_site (entered_with (letter_to 0 ∷ [])) terminal_node (who.Terminal 0) 1
        (record { server = 0; place = 0 }) disc_pair
    owed = is_owed (pos 2 ∷ pos 1 ∷ pos 5 ∷ []) (inl refl)

    by : (terminal : Terminal) → record { entered = 1; printed = 0 } ≡ terminal → (opener : Opener)
        → record { server = 0; place = 0 } ≡ opener → (pair : Pair)
        → slice_get (disc_pair ∷ []) opener.server ≡ Some pair
        → IsServed disc_site (entered_with (letter_to 0 ∷ [])) terminal_node (who.Terminal 0) terminal.entered opener
        pair
    by terminal same opener is pair there =
        let copies : disc_pair ≡ pair =
        some-same (subst (λ (o : Opener). slice_get (disc_pair ∷ []) o.server ≡ Some pair) (sym is) there) in
        subst (λ (t : Terminal). IsServed disc_site (entered_with (letter_to 0 ∷ [])) terminal_node (who.Terminal 0)
        t.entered opener pair) same
        (subst (λ (o : Opener). IsServed disc_site (entered_with (letter_to 0 ∷ [])) terminal_node (who.Terminal 0) 1 o
        pair) is
        (subst (IsServed disc_site (entered_with (letter_to 0 ∷ [])) terminal_node (who.Terminal 0) 1
        (record { server = 0; place = 0 })) copies owed))
all-served asker one n opener pair opens there (by_terminal {number = suc number} terminal at awaits) = absurd (cc)

-- nothing is owed to the first copy, and nothing waits there
not-served : (owed : List Letter) → IsServed disc_site (entered_with owed) terminal_node (who.Terminal 0) 1
    (record { server = 0; place = 0 }) disc_pair
    → ((words : List _) → IsAmong (record {
      sender = terminal_node;
      receiver = 0;
      message = Asking (request_of (record { server = 0; place = 0 }) 1 words);
    }) owed → ⊥) → ⊥
not-served owed (route_stopped stopped) none = absurd (cc)
not-served owed (is_owed words among) none = none words among
not-served owed (is_seen First at seen) none = absurd ((seen.next refl refl).1)
not-served owed (is_seen Second at seen) none = absurd (cc)

pub returns-clause-owed : goal.returns-clause-owed
returns-clause-owed c = all-served

pub returns-clause-elsewhere : goal.returns-clause-elsewhere
returns-clause-elsewhere c = λ served. not-served (letter_to 1 ∷ [])
    (served terminal_node (who.Terminal 0) 1 (record { server = 0; place = 0 }) disc_pair refl refl
    (by_terminal {number = 0} (record { entered = 1; printed = 0 }) refl refl))
    (λ words among. elim among [
      | inl same ↦ absurd
          (let there : 0 ≡ 1 = ap (λ (letter : Letter). letter.receiver) same in cc)
      | inr none ↦ none
    ])

pub returns-clause-lost : goal.returns-clause-lost
returns-clause-lost c = λ served. not-served []
    (served terminal_node (who.Terminal 0) 1 (record { server = 0; place = 0 }) disc_pair refl refl
    (by_terminal {number = 0} (record { entered = 1; printed = 0 }) refl refl))
    (λ words among. among)
