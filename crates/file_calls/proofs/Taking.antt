-- Requests of which one is taken out, after some that don't stand Next, or that are settled already.
use Rattle.std.proofs.Common.{◌≡◌, ◌⊎◌, inl, inr, ℕ, zero, suc, ◌+◌, ◌<◌, ◌≤◌, Bool, true, false, List, [], ◌∷◌, ◌++◌}
use Rattle.std.proofs.Common.{length, take, drop, remove, get_or, Option, Some, None, option_map, refl, ap, sym, ◌∙◌}
use Rattle.std.proofs.Common.{ap₂, ℤ, add-one, append_assoc}
use Rattle.std.proofs.Math.Seq.{drop-cons}
use Rattle.std.proofs.lemmas.List.{append-nil, drop_all, drop_more, take_all, take_more}
use Rattle.gd_words.specs.declared.message.Request.{Request}
use Rattle.checkpoint_image.specs.Receive.{Chosen, choice_among, chosen_after, chosen_by, is_next, is_waiting, reply_to}
use Rattle.checkpoint_image.specs.Receive.{request_standing}
use Rattle.checkpoint_image.specs.declared.receive.ReceiveBlock.{ReceiveBlock}
use Rattle.checkpoint_image.specs.declared.receive.RequestStanding.{RequestStanding}
use Rattle.checkpoint_image.specs.declared.receive.RequestStanding.TheVariants.{Next, InHand, Kept, Old, Ahead}
use Rattle.file_calls.specs.Takeover.{Settled, settlement_of, settled_after, settled_by}

-- the rest of requests from a place on, where this request stands at it
rest-at : (requests : List Request) (k : ℕ) (request : Request) → k < length requests
    → request ≡ get_or requests k request
    → drop k requests ≡ request ∷ drop (suc k) requests
rest-at requests k request within is =
    drop-cons requests k request within ∙ ap (λ (r : Request). r ∷ drop (suc k) requests) (sym is)

one-more : (requests : List Request) (k : ℕ) (request : Request) → k < length requests
    → request ≡ get_or requests k request
    → take k requests ++ request ∷ [] ≡ take (k + 1) requests
one-more requests k request within is =
    sym (take_more requests k request within ∙ ap (λ (r : Request). take k requests ++ r ∷ []) (sym is))

-- Chosen

-- what is chosen of requests behind these
abbrev pub chosen_behind : List Request → Option Chosen → Option Chosen
chosen_behind before found = option_map (λ (c : Chosen). record c { rest = before ++ c.rest }) found

-- what is chosen from a place on, where none before it stands Next
abbrev pub chosen_from : ReceiveBlock → List Request → ℕ → Option Chosen
chosen_from table requests k = chosen_behind (take k requests) (choice_among table (drop k requests))

behind-nothing : (found : Option Chosen) → found ≡ chosen_behind [] found
behind-nothing None = refl
behind-nothing (Some c) = refl

pub chosen-first : (table : ReceiveBlock) (requests : List Request)
    → choice_among table requests ≡ chosen_from table requests 0
chosen-first table requests = behind-nothing (choice_among table requests)

behind-one : (before : List Request) (request : Request) (found : Option Chosen)
    → chosen_behind before (option_map (chosen_after request) found) ≡ chosen_behind (before ++ request ∷ []) found
behind-one before request None = refl
behind-one before request (Some c) =
    ap (λ (rest : List Request). Some (record c { rest = rest })) (sym (append_assoc before (request ∷ []) c.rest))

pub chosen-later : (table : ReceiveBlock) (requests : List Request) (k : ℕ) (request : Request) → k < length requests
    → request ≡ get_or requests k request
    → is_next (request_standing table request) ≡ false
    → chosen_from table requests k ≡ chosen_from table requests (k + 1)
chosen-later table requests k request within is other =
    let rest = drop (k + 1) requests in
    ap (λ (rs : List Request). chosen_behind (take k requests) (choice_among table rs))
    (drop_more requests k request within ∙ ap (λ (r : Request). r ∷ rest) (sym is))
    ∙ ap (λ (b : Bool). chosen_behind (take k requests) (chosen_by b request rest (choice_among table rest))) other
    ∙ behind-one (take k requests) request (choice_among table rest)
    ∙ ap (λ (before : List Request). chosen_behind before (choice_among table rest))
    (one-more requests k request within is)

pub chosen-here : (table : ReceiveBlock) (requests : List Request) (k : ℕ) (request : Request) → k < length requests
    → request ≡ get_or requests k request
    → is_next (request_standing table request) ≡ true
    → chosen_from table requests k ≡ Some (record { request = request; rest = remove requests k })
chosen-here table requests k request within is next =
    ap (λ (rs : List Request). chosen_behind (take k requests) (choice_among table rs))
    (rest-at requests k request within is)
    ∙ ap (λ (b : Bool). chosen_behind (take k requests)
    (chosen_by b request (drop (suc k) requests) (choice_among table (drop (suc k) requests)))) next

pub chosen-none : (table : ReceiveBlock) (requests : List Request) (k : ℕ) → length requests ≤ k
    → chosen_from table requests k ≡ None
chosen-none table requests k all =
    ap (λ (rs : List Request). chosen_behind (take k requests) (choice_among table rs)) (drop_all k requests all)

-- Settled

-- what is settled of requests behind these
abbrev pub settled_behind : List Request → Settled → Settled
settled_behind before s = record s { rest = before ++ s.rest }

-- what is settled from a place on, where those before it wait on
abbrev pub settled_from : ReceiveBlock → List Request → ℕ → Settled
settled_from table requests k = settled_behind (take k requests) (settlement_of table (drop k requests))

settled-rest : (table : ReceiveBlock) (requests : List Request) (k : ℕ) (request : Request) (s : RequestStanding)
    → k < length requests → request ≡ get_or requests k request
    → request_standing table request ≡ s → settlement_of table (drop k requests)
    ≡ settled_by s request (drop (suc k) requests) (settlement_of table (drop (suc k) requests))
settled-rest table requests k request s within is stands =
    ap (settlement_of table) (rest-at requests k request within is)
    ∙ ap (λ (t : RequestStanding). settled_by t request (drop (suc k) requests)
    (settlement_of table (drop (suc k) requests))) stands

settled-waits : (s : RequestStanding) (request : Request) (rest : List Request) (later : Settled) → is_waiting s ≡ true
    → settled_by s request rest later ≡ settled_after request later
settled-waits Next request rest later waits = refl
settled-waits Ahead request rest later waits = refl
settled-waits InHand request rest later waits = absurd (cc)
settled-waits Old request rest later waits = absurd (cc)
settled-waits (Kept words) request rest later waits = absurd (cc)

pub settled-later : (table : ReceiveBlock) (requests : List Request) (k : ℕ) (request : Request) (s : RequestStanding)
    → k < length requests → request ≡ get_or requests k request
    → request_standing table request ≡ s → is_waiting s ≡ true
    → settled_from table requests k ≡ settled_from table requests (k + 1)
settled-later table requests k request s within is stands waits =
    let later = settlement_of table (drop (suc k) requests) in
    ap (settled_behind (take k requests)) (settled-rest table requests k request s within is stands
    ∙ settled-waits s request (drop (suc k) requests) later waits)
    ∙ ap (λ (rest : List Request). record later { rest = rest })
    (sym (append_assoc (take k requests) (request ∷ []) later.rest))
    ∙ ap (λ (before : List Request). settled_behind before later) (one-more requests k request within is)
    ∙ ap (λ (n : ℕ). settled_behind (take (k + 1) requests) (settlement_of table (drop n requests))) (sym (add-one k))

take-removed : (requests : List Request) (k : ℕ) → take k requests ≡ take k (remove requests k)
take-removed [] zero = refl
take-removed [] (suc k) = refl
take-removed (request ∷ requests) zero = refl
take-removed (request ∷ requests) (suc k) = ap (λ (rest : List Request). request ∷ rest) (take-removed requests k)

drop-removed : (requests : List Request) (k : ℕ) → drop (suc k) requests ≡ drop k (remove requests k)
drop-removed [] zero = refl
drop-removed [] (suc k) = refl
drop-removed (request ∷ requests) zero = refl
drop-removed (request ∷ requests) (suc k) = drop-removed requests k

settled-goes : (table : ReceiveBlock) (request : Request) (rest : List Request) (later : Settled)
    → (request_standing table request ≡ InHand) ⊎ (request_standing table request ≡ Old)
    → settled_by (request_standing table request) request rest later ≡ later
settled-goes table request rest later (inl stands) =
    ap (λ (s : RequestStanding). settled_by s request rest later) stands
settled-goes table request rest later (inr stands) =
    ap (λ (s : RequestStanding). settled_by s request rest later) stands

-- a request that goes without a reply
pub settled-without : (table : ReceiveBlock) (requests : List Request) (k : ℕ) (request : Request)
    → k < length requests → request ≡ get_or requests k request
    → (request_standing table request ≡ InHand) ⊎ (request_standing table request ≡ Old)
    → settled_from table requests k ≡ settled_from table (remove requests k) k
settled-without table requests k request within is stands =
    ap (settled_behind (take k requests))
    (settled-rest table requests k request (request_standing table request) within is refl
    ∙ settled-goes table request (drop (suc k) requests) (settlement_of table (drop (suc k) requests)) stands)
    ∙ ap₂ (λ (before rest : List Request). settled_behind before (settlement_of table rest)) (take-removed requests k)
    (drop-removed requests k)

pub settled-kept : (table : ReceiveBlock) (requests : List Request) (k : ℕ) (request : Request) (words : List ℤ)
    → k < length requests → request ≡ get_or requests k request
    → request_standing table request ≡ Kept words → settled_from table requests k
    ≡ record { reply = Some (reply_to request words); rest = remove requests k }
settled-kept table requests k request words within is stands =
    ap (settled_behind (take k requests)) (settled-rest table requests k request (Kept words) within is stands)

pub settled-none : (table : ReceiveBlock) (requests : List Request) (k : ℕ) → length requests ≤ k
    → settled_from table requests k ≡ record { reply = None; rest = requests }
settled-none table requests k all =
    ap₂ (λ (before rest : List Request). settled_behind before (settlement_of table rest)) (take_all k requests all)
    (drop_all k requests all)
    ∙ ap (λ (rest : List Request). record { reply = None; rest = rest }) (append-nil requests)
