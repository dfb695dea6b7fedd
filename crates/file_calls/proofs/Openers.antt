-- Requests of distinct openers, and how many there can be.
use Rattle.std.proofs.Common.{◌≡◌, inl, inr, ℕ, zero, suc, ◌<◌, ◌≤◌, ◌==◌, Bool, true, false, not, cond, List, [], ◌∷◌}
use Rattle.std.proofs.Common.{◌++◌, length, filter, take, drop, remove, All, refl, ap, subst, sym, ◌∙◌, arith}
use Rattle.std.proofs.lemmas.Bool.{eq-eqb}
use Rattle.std.proofs.lemmas.List.{length-append, length-map, map-append}
use Rattle.std.proofs.lemmas.List.Elements.{All-append, All-drop, All-filter, All-head, All-push, All-tail, All-take}
use Rattle.gd_words.specs.Members.{AreDistinct, IsAmong}
use Rattle.gd_words.proofs.Distinct.{distinct-both, distinct-few}
use Rattle.gd_words.specs.declared.message.Request.{Request}
use Rattle.checkpoint_image.specs.Receive.{is_outdone, is_same_opener, waits}
use Rattle.file_calls.specs.Queue.{IsOnePerOpener, Queue, openers_of, queue_of}

-- Filtered

among-either-way : (b : Bool) (n : ℕ) (request : Request) (kept : List Request)
    → IsAmong n (openers_of (cond b (request ∷ kept) kept))
    → IsAmong n (request.opener ∷ openers_of kept)
among-either-way true n request kept among = among
among-either-way false n request kept among = inr among

among-filter : (test : Request → Bool) (requests : List Request) (n : ℕ)
    → IsAmong n (openers_of (filter test requests)) → IsAmong n (openers_of requests)
among-filter test [] n among = among
among-filter test (request ∷ requests) n among =
    elim (among-either-way (test request) n request (filter test requests) among)
    [ inl same ↦ inl same | inr later ↦ inr (among-filter test requests n later) ]

distinct-either-way : (b : Bool) (request : Request) (kept : List Request)
    → AreDistinct (request.opener ∷ openers_of kept)
    → AreDistinct (openers_of (cond b (request ∷ kept) kept))
distinct-either-way true request kept distinct = distinct
distinct-either-way false request kept distinct = distinct.1

distinct-filter : (test : Request → Bool) (requests : List Request) → AreDistinct (openers_of requests)
    → AreDistinct (openers_of (filter test requests))
distinct-filter test [] distinct = tt
distinct-filter test (request ∷ requests) distinct =
    distinct-either-way (test request) request (filter test requests)
    ((λ among. distinct.0 (among-filter test requests request.opener among)), distinct-filter test requests distinct.1)

-- Come to wait

gone-either-way : (request other : Request) (kept : List Request) (b : Bool) → (request.opener == other.opener) ≡ b
    → IsAmong request.opener (openers_of (cond (not b) (other ∷ kept) kept)) → IsAmong request.opener (openers_of kept)
gone-either-way request other kept true is among = among
gone-either-way request other kept false is (inl same) =
    let equal : (request.opener == other.opener) ≡ true = eq-eqb request.opener other.opener same in absurd (cc)
gone-either-way request other kept false is (inr among) = among

-- without those of one opener, none is of it
gone : (request : Request) (requests : List Request)
    → IsAmong request.opener (openers_of (filter (λ other. not (is_same_opener request other)) requests)) → ⊥
gone request [] among = among
gone request (other ∷ requests) among =
    gone request requests
    (gone-either-way request other (filter (λ other. not (is_same_opener request other)) requests)
    (request.opener == other.opener) refl among)

-- the requests without those of one opener
abbrev others : Request → List Request → List Request
others request requests = filter (λ other. not (is_same_opener request other)) requests

pub sound-came : (openers : ℕ) (requests kept : List Request) (request : Request) (given : Queue)
    → queue_of openers requests ≡ given → request.opener < given.openers
    → kept ≡ others request requests → IsOnePerOpener (queue_of openers requests)
    → IsOnePerOpener (queue_of openers (kept ++ request ∷ []))
sound-came openers requests kept request given same known is sound = record {
  known = All-push (λ (other : Request). other.opener < openers) kept request
      (subst (λ (rs : List Request). All (λ (other : Request). other.opener < openers) rs) (sym is)
      (All-filter (λ (other : Request). not (is_same_opener request other))
      (λ (other : Request). other.opener < openers) requests sound.known))
      (subst (λ (q : Queue). request.opener < q.openers) (sym same) known);
  single = subst AreDistinct (sym (map-append (λ (other : Request). other.opener) kept (request ∷ [])))
      (distinct-both (openers_of kept) (request.opener ∷ [])
      (subst (λ (rs : List Request). AreDistinct (openers_of rs)) (sym is)
      (distinct-filter (λ (other : Request). not (is_same_opener request other)) requests sound.single))
      ((λ none. none), tt)
      (λ n first last. elim last [
        | inl same ↦ gone request requests (subst (λ (m : ℕ). IsAmong m (openers_of (others request requests))) same
            (subst (λ (rs : List Request). IsAmong n (openers_of rs)) is first))
        | inr none ↦ none
      ]));
}

-- the requests after one came that isn't outdone
pub waits-now : (openers : ℕ) (waiting kept : List Request) (request : Request) (given : Queue)
    → queue_of openers waiting ≡ given → kept ≡ others request waiting
    → is_outdone request waiting ≡ false → kept ++ request ∷ [] ≡ waits given.requests request
waits-now openers waiting kept request given same is first =
    ap (λ (rs : List Request). rs ++ request ∷ []) is
    ∙ sym (ap (λ (b : Bool). cond b waiting (others request waiting ++ request ∷ [])) first)
    ∙ ap (λ (q : Queue). waits q.requests request) same

below : (openers : ℕ) (requests : List Request) → All (λ request. request.opener < openers) requests → (n : ℕ)
    → IsAmong n (openers_of requests) → n < openers
below openers [] known n among = absurd among
below openers (request ∷ requests) known n (inl same) =
    subst (λ (m : ℕ). m < openers) (sym same)
    (All-head (λ (other : Request). other.opener < openers) request requests known)
below openers (request ∷ requests) known n (inr among) =
    below openers requests (All-tail (λ (other : Request). other.opener < openers) request requests known) n among

-- no more requests wait than there are openers
pub few : (openers : ℕ) (requests : List Request) → IsOnePerOpener (queue_of openers requests)
    → length requests ≤ openers
few openers requests sound =
    let fewer = distinct-few (openers_of requests) openers sound.single (below openers requests sound.known) in
    omega (arith, length-map requests (λ (other : Request). other.opener))

-- before one comes to wait there is room for it
pub room : (openers : ℕ) (requests : List Request) (request : Request)
    → IsOnePerOpener (queue_of openers (requests ++ request ∷ [])) → length requests < openers
room openers requests request sound =
    omega (arith, few openers (requests ++ request ∷ []) sound, length-append requests (request ∷ []))

-- Taken out

among-remove : (requests : List Request) (k n : ℕ) → IsAmong n (openers_of (remove requests k))
    → IsAmong n (openers_of requests)
among-remove [] zero n among = among
among-remove [] (suc k) n among = among
among-remove (request ∷ requests) zero n among = inr among
among-remove (request ∷ requests) (suc k) n (inl same) = inl same
among-remove (request ∷ requests) (suc k) n (inr among) = inr (among-remove requests k n among)

distinct-remove : (requests : List Request) (k : ℕ) → AreDistinct (openers_of requests)
    → AreDistinct (openers_of (remove requests k))
distinct-remove [] zero distinct = tt
distinct-remove [] (suc k) distinct = tt
distinct-remove (request ∷ requests) zero distinct = distinct.1
distinct-remove (request ∷ requests) (suc k) distinct =
    ((λ among. distinct.0 (among-remove requests k request.opener among)), distinct-remove requests k distinct.1)

pub sound-removed : (openers : ℕ) (requests : List Request) (k : ℕ) → IsOnePerOpener (queue_of openers requests)
    → IsOnePerOpener (queue_of openers (remove requests k))
sound-removed openers requests k sound = record {
  known = All-append (λ (other : Request). other.opener < openers) (take k requests) (drop (suc k) requests)
      (All-take (λ (other : Request). other.opener < openers) k requests sound.known)
      (All-drop (λ (other : Request). other.opener < openers) (suc k) requests sound.known);
  single = distinct-remove requests k sound.single;
}
