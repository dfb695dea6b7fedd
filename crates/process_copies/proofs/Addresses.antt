-- In a site within the limits each opener has an address: its server is one of 16 processes, which has at most 144
-- openers.
use Rattle.std.proofs.Common.{◌≡◌, ℕ, zero, suc, refl, ◌+◌, ◌<◌, ◌≤◌, Bool, true, false, true≢false, if◌then◌else◌}
use Rattle.std.proofs.Common.{List, [], ◌∷◌, length, slice_get, Option, Some, None, is_some, IfSome, sym, arith}
use Rattle.tal_tree.specs.declared.site.Site.{Site}
use Rattle.tal_tree.specs.declared.site.ProcessSpec.{ProcessSpec}
use Rattle.tal_tree.specs.declared.site.OpenerSpec.{OpenerSpec}
use Rattle.tal_tree.specs.declared.site.Who.{Who}
use Rattle.plain_semantics.specs.Openers.{opener_at, opener_of, opener_on, openers_by, place_from, same_who, server_by}
use Rattle.plain_semantics.specs.SiteLimits.{KeepsSiteLimits}
use Rattle.plain_semantics.proofs.Few.{openers-few}
use Rattle.process_copies.specs.Starting.{HasAddress}

-- a place among openers is one of theirs
before_end : (b : Bool) (one : Who) (number count : ℕ) (openers : List OpenerSpec) → 0 < count
    → IfSome (place_from one (number + 1) openers) (λ place. place < number + count)
    → IfSome (if b then Some number else place_from one (number + 1) openers) (λ place. place < number + count)
before_end true one number count openers some later = omega (arith, some)
before_end false one number count openers some later = later

raised : (found : Option ℕ) (low high : ℕ) → low ≤ high → IfSome found (λ place. place < low)
    → IfSome found (λ place. place < high)
raised None low high less within = within
raised (Some place) low high less within = omega (arith, less, within)

places : (one : Who) (number : ℕ) (openers : List OpenerSpec)
    → IfSome (place_from one number openers) (λ place. place < number + length openers)
places one number [] = _
places one number (opener ∷ openers) =
    before_end (same_who one opener.who) one number (suc (length openers)) openers (omega arith)
    (raised (place_from one (number + 1) openers) (number + 1 + length openers) (number + suc (length openers))
    (omega arith) (places one (number + 1) openers))

-- the openers of a process are there only if it is
of_process : (site : Site) (server : ℕ) (named : Option ProcessSpec) (one : Who)
    → (is_some named ≡ true → server < 256) → length (openers_by site server named) ≤ 144
    → IfSome (opener_at server (place_from one 0 (openers_by site server named))) HasAddress
of_process site server None one there few = _
of_process site server (Some spec) one there few =
    at_place (place_from one 0 (openers_by site server (Some spec))) (places one 0 (openers_by site server (Some spec)))
  where
    at_place : (found : Option ℕ) → IfSome found (λ place. place < 0 + length (openers_by site server (Some spec)))
        → IfSome (opener_at server found) HasAddress
    at_place None within = _
    at_place (Some place) within = (there refl, omega (arith, within, few))

within : (specs : List ProcessSpec) (number : ℕ) → is_some (slice_get specs number) ≡ true → number < length specs
within [] number some = absurd (true≢false (sym some))
within (spec ∷ specs) zero some = omega arith
within (spec ∷ specs) (suc number) some = omega (arith, within specs number some)

on_server : (site : Site) (one : Who) (server : Option ℕ) → KeepsSiteLimits site
    → IfSome (opener_on site one server) HasAddress
on_server site one None keeps = _
on_server site one (Some server) keeps =
    of_process site server (slice_get site.processes server) one
    (λ some. omega (arith, within site.processes server some, keeps.processes)) (openers-few site server keeps)

pub has-address : (site : Site) (one : Who) → KeepsSiteLimits site → IfSome (opener_of site one) HasAddress
has-address site one keeps = on_server site one (server_by site one) keeps
