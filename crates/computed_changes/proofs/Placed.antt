-- Where a file or a terminal stands among the openers of its server, it is the one that stands there.
use Rattle.std.proofs.Common.{◌≡◌, ℕ, zero, suc, ◌+◌, ◌==◌, Bool, true, false, if◌then◌else◌, List, [], ◌∷◌, Option}
use Rattle.std.proofs.Common.{Some, None, option_map, slice_get, refl, sym, ap, arith}
use Rattle.std.proofs.lemmas.Bool.{eqb-true}
use Rattle.tal_tree.specs.gd_words.specs.declared.message.Reply.{Reply}
use Rattle.tal_tree.specs.declared.site.Site.{Site}
use Rattle.tal_tree.specs.declared.site.OpenerSpec.{OpenerSpec}
use Rattle.tal_tree.specs.declared.site.Who.{Who}
use Rattle.tal_tree.specs.declared.site.Who.TheVariants as who
use Rattle.world_semantics.specs.plain_semantics.specs.declared.slot.Opener.{Opener}
use Rattle.world_semantics.specs.plain_semantics.specs.Openers.{openers_of, opener_of, opener_on, opener_at, place_from}
use Rattle.world_semantics.specs.plain_semantics.specs.Openers.{same_who, server_by}
use Rattle.world_semantics.proofs.Lists.{some-same}
use Rattle.world_semantics.proofs.Roles.{both-true}
use Rattle.world_semantics.proofs.Moves.{opener-is}
use Rattle.computed_changes.specs.Replies.{is_to}

same-who : (one other : Who) → same_who one other ≡ true → one ≡ other
same-who (who.File p f) (who.File q g) e =
    let t = both-true (p == q) (f == g) e in
    let a : p ≡ q = eqb-true p q t.0 in
    let b : f ≡ g = eqb-true f g t.1 in rw (a, b) refl
same-who (who.Terminal t) (who.Terminal u) e = let a : t ≡ u = eqb-true t u e in rw a refl
same-who (who.File p f) (who.Terminal u) e = absurd (cc)
same-who (who.Terminal t) (who.File q g) e = absurd (cc)

-- who stands at a place
abbrev pub who_at : List OpenerSpec → ℕ → Option Who
who_at openers place = option_map (λ opener. opener.who) (slice_get openers place)

-- where the first of some openers stands that is this one, counted from a number
record IsPlaced (one : Who) (from : ℕ) (openers : List OpenerSpec) (place : ℕ) : Type 0 where
  pub at : ℕ
  pub count : place ≡ from + at
  pub same : who_at openers at ≡ Some one

placed-from : (one : Who) (from : ℕ) (openers : List OpenerSpec) (place : ℕ) → place_from one from openers ≡ Some place
    → IsPlaced one from openers place
placed-from one from [] place e = absurd (cc)
placed-from one from (opener ∷ openers) place e =
    by (same_who one opener.who) refl e (placed-from one (from + 1) openers place)
  where
    by : (test : Bool) → same_who one opener.who ≡ test
        → (if test then Some from else place_from one (from + 1) openers) ≡ Some place
        → (place_from one (from + 1) openers ≡ Some place → IsPlaced one (from + 1) openers place)
        → IsPlaced one from (opener ∷ openers) place
    by true is e later =
        let n : from ≡ place = some-same e in
        record { at = zero; count = omega (arith, n); same = ap Some (sym (same-who one opener.who is)) }
    by false is e later = let p = later e in record { at = suc p.at; count = omega (arith, p.count); same = p.same }

pub opener-placed : (site : Site) (one : Who) (server place : ℕ)
    → opener_of site one ≡ Some (record { server = server; place = place })
    → who_at (openers_of site server) place ≡ Some one
opener-placed site one server place e = by (server_by site one) e
  where
    at-place : (n : ℕ) (found : Option ℕ) → place_from one 0 (openers_of site n) ≡ found
        → opener_at n found ≡ Some (record { server = server; place = place })
        → who_at (openers_of site server) place ≡ Some one
    at-place n None is e = absurd (cc)
    at-place n (Some m) is e =
        let same = some-same e in
        let s : n ≡ server = ap (λ (o : Opener). o.server) same in
        let p : m ≡ place = ap (λ (o : Opener). o.place) same in
        let placed = placed-from one 0 (openers_of site n) m is in
        let at : placed.at ≡ place = omega (arith, placed.count, p) in
        rw (sym s, sym at) placed.same

    by : (found : Option ℕ) → opener_on site one found ≡ Some (record { server = server; place = place })
        → who_at (openers_of site server) place ≡ Some one
    by None e = absurd (cc)
    by (Some n) e = at-place n (place_from one 0 (openers_of site n)) refl e

-- Whom a reply goes to

pub is-to : (opener : Option Opener) (reply : Reply) → is_to opener reply ≡ true
    → opener ≡ Some (record { server = reply.process; place = reply.opener })
is-to None reply e = absurd (cc)
is-to (Some opener) reply e = ap Some (opener-is opener reply e)
