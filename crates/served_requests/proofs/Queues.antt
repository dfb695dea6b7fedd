-- Requests that wait: which of them still do where another one comes, or is taken.
use Rattle.std.proofs.Common.{◌≡◌, ◌≢◌, ◌==◌, ◌&&◌, ◌||◌, ◌⊎◌, inl, inr, ◌≤◌, Bool, true, false, not, if◌then◌else◌}
use Rattle.std.proofs.Common.{cond, nat_le, List, [], ◌∷◌, ◌++◌, Option, Some, None, refl, ap, sym, ◌∙◌, subst, arith}
use Rattle.std.proofs.lemmas.Bool.{eq-eqb, eqb-true, le-leb, leb-true}
use Rattle.std.proofs.lemmas.Bool.Decides.{eqb_tells}
use Rattle.std.specs.List.{filter}
use Rattle.gd_words.specs.Members.{IsAmong}
use Rattle.gd_words.specs.declared.message.Request.{Request}
use Rattle.gd_words.proofs.Among.{among-left, among-right}
use Rattle.checkpoint_image.specs.declared.receive.ReceiveBlock.{ReceiveBlock}
use Rattle.checkpoint_image.specs.Receive.{is_same_opener, is_outdone, waits, is_waiting, request_standing, came}
use Rattle.checkpoint_image.specs.Receive.{Chosen}
use Rattle.checkpoint_image.specs.Receive.{is_next, chosen_after, chosen_by, choice_among}
use Rattle.world_semantics.proofs.Lists.{some-same}
use Rattle.world_semantics.proofs.Roles.{both-true}
use Rattle.letter_laws.specs.takeover_laws.proofs.Checkpoints.{either}

-- an item that passes a test is among those that do
pub filter-in : {A : Type 0} (test : A → Bool) (x : A) (xs : List A) → test x ≡ true → IsAmong x xs
    → IsAmong x (filter test xs)
filter-in test x [] passes among = among
filter-in test x (y ∷ xs) passes among = by (filter-in test x xs passes) (test y) refl among
  where
    by : (IsAmong x xs → IsAmong x (filter test xs)) → (b : Bool) → test y ≡ b → (x ≡ y) ⊎ IsAmong x xs
        → IsAmong x (cond b (y ∷ filter test xs) (filter test xs))
    by rest true e (inl same) = inl same
    by rest true e (inr later) = inr (rest later)
    by rest false e (inl same) = absurd (let z : test y ≡ true = subst (λ v. test v ≡ true) same passes in cc)
    by rest false e (inr later) = rest later

-- Coming

outdone-by : (request other : Request) (waiting : List Request) → IsAmong other waiting → request.opener ≡ other.opener
    → request.number ≤ other.number
    → is_outdone request waiting ≡ true
outdone-by request other [] among same most = absurd among
outdone-by request other (first ∷ rest) (inl here) same most =
    rw (← here, eq-eqb request.opener other.opener same, le-leb request.number other.number most) refl
outdone-by request other (first ∷ rest) (inr later) same most =
    or-right (is_same_opener request first && nat_le request.number first.number)
    (outdone-by request other rest later same most)
  where
    or-right : (a : Bool) {b : Bool} → b ≡ true → (a || b) ≡ true
    or-right true e = refl
    or-right false e = e

outdone-is : (request : Request) (waiting : List Request) → is_outdone request waiting ≡ true
    → (other : Request) × IsAmong other waiting × (request.opener ≡ other.opener) × (request.number ≤ other.number)
outdone-is request [] e = absurd (cc)
outdone-is request (first ∷ rest) e =
    by (either (is_same_opener request first && nat_le request.number first.number) (is_outdone request rest) e)
    (outdone-is request rest)
  where
    by : ((is_same_opener request first && nat_le request.number first.number) ≡ true)
        ⊎ (is_outdone request rest ≡ true)
        → (is_outdone request rest ≡ true → (other : Request) × IsAmong other rest × (request.opener ≡ other.opener)
        × (request.number ≤ other.number))
        → (other : Request) × IsAmong other (first ∷ rest) × (request.opener ≡ other.opener)
        × (request.number ≤ other.number)
    by (inl here) later =
        let both = both-true (is_same_opener request first) (nat_le request.number first.number) here in
        (first, inl refl, eqb-true request.opener first.opener both.0, leb-true request.number first.number both.1)
    by (inr there) later = let is = later there in (is.0, inr is.1, is.2, is.3)

-- what waits still waits where a request comes whose number isn't greater, or that is of another opener
pub waits-still : (request other : Request) (waiting : List Request) → IsAmong other waiting
    → (other.opener ≡ request.opener → request.number ≤ other.number)
    → IsAmong other (waits waiting request)
waits-still request other waiting among most = elim (eqb_tells request.opener other.opener) [
  | inl same ↦ rw (outdone-by request other waiting among same.1 (most (sym same.1))) among
  | inr apart ↦ by (is_outdone request waiting) apart.0
]
  where
    by : (out : Bool) → (request.opener == other.opener) ≡ false
        → IsAmong other (if out then waiting else filter (λ other. not (is_same_opener request other)) waiting
        ++ request ∷ [])
    by true apart = among
    by false apart = among-left other (filter (λ other. not (is_same_opener request other)) waiting) (request ∷ [])
        (filter-in (λ other. not (is_same_opener request other)) other waiting (rw apart refl) among)

-- a request that comes waits, or one of its process, its opener and its number did
pub waits-now : (request : Request) (waiting : List Request)
    → ((other : Request) → IsAmong other waiting
    → (other.process ≡ request.process) × (other.opener ≡ request.opener → other.number ≤ request.number))
    → (other : Request) × IsAmong other (waits waiting request) × (other.process ≡ request.process)
    × (other.opener ≡ request.opener) × (other.number ≡ request.number)
waits-now request waiting most = by (is_outdone request waiting) refl
  where
    by : (out : Bool) → is_outdone request waiting ≡ out
        → (other : Request) × IsAmong other (if out then waiting else filter
        (λ other. not (is_same_opener request other)) waiting ++ request ∷ [])
        × (other.process ≡ request.process) × (other.opener ≡ request.opener) × (other.number ≡ request.number)
    by true e =
        let is = outdone-is request waiting e in let less =
        is.3 in let known = most is.0 is.1 in let more = known.1 (sym is.2) in
        (is.0, is.1, known.0, sym is.2, omega (arith, less, more))
    by false e = (
      request,
      among-right request (filter (λ other. not (is_same_opener request other)) waiting)
          (request ∷ []) (inl refl),
      refl,
      refl,
      refl,
    )

pub came-still : (table : ReceiveBlock) (request other : Request) (waiting : List Request) → IsAmong other waiting
    → (other.opener ≡ request.opener → request.number ≤ other.number)
    → IsAmong other (came table waiting request)
came-still table request other waiting among most = by (is_waiting (request_standing table request))
  where
    by : (wait : Bool) → IsAmong other (if wait then waits waiting request else waiting)
    by true = waits-still request other waiting among most
    by false = among

-- Taking

-- what isn't of the opener whose request is taken waits on
pub chosen-leaves : (table : ReceiveBlock) (waiting : List Request) (found : Chosen) (other : Request)
    → choice_among table waiting ≡ Some found
    → IsAmong other waiting
    → other.opener ≢ found.request.opener → IsAmong other found.rest
chosen-leaves table [] found other e among apart = absurd among
chosen-leaves table (first ∷ rest) found other e among apart =
    by (is_next (request_standing table first)) (choice_among table rest) refl e among
    (λ later. chosen-leaves table rest later other)
  where
    up : (later : Chosen) → chosen_after first later ≡ found → (other ≡ first) ⊎ IsAmong other rest
        → (IsAmong other rest → other.opener ≢ later.request.opener → IsAmong other later.rest)
        → IsAmong other found.rest
    up later same (inl here) deeper = subst (λ (c : Chosen). IsAmong other c.rest) same (inl here)
    up later same (inr there) deeper =
        subst (λ (c : Chosen). IsAmong other c.rest) same
        (inr (deeper there (λ is. apart (is ∙ ap (λ (c : Chosen). c.request.opener) same))))

    by : (test : Bool) (later : Option Chosen) → choice_among table rest ≡ later
        → chosen_by test first rest later ≡ Some found → (other ≡ first) ⊎ IsAmong other rest
        → ((later : Chosen) → choice_among table rest ≡ Some later → IsAmong other rest
        → other.opener ≢ later.request.opener
        → IsAmong other later.rest)
        → IsAmong other found.rest
    by true later is e (inl here) deeper =
        absurd (apart (ap (λ (r : Request). r.opener) here ∙ ap (λ (c : Chosen). c.request.opener) (some-same e)))
    by true later is e (inr there) deeper = subst (λ (c : Chosen). IsAmong other c.rest) (some-same e) there
    by false None is e among deeper = absurd (cc)
    by false (Some later) is e among deeper = up later (some-same e) among (deeper later is)
