-- No request waits twice at a node.
use Rattle.std.proofs.Common.{◌≡◌, inl, inr, ℕ, zero, suc, ◌+◌, ◌==◌, ◌≤◌, Bool, true, false, if◌then◌else◌, List, []}
use Rattle.std.proofs.Common.{◌∷◌, ◌++◌, Some, slice_get, refl, subst, sym, ◌∙◌, arith}
use Rattle.std.proofs.lemmas.Bool.{eq-eqb}
use Rattle.gd_words.specs.Members.{IsAmong}
use Rattle.gd_words.specs.declared.message.Request.{Request}
use Rattle.gd_words.proofs.Among.{among-either}
use Rattle.tal_tree.specs.declared.site.Site.{Site}
use Rattle.schedule.specs.declared.event.Event.{Event}
use Rattle.world_semantics.specs.declared.role.Role.{Role}
use Rattle.world_semantics.specs.declared.role.Role.TheVariants.{Acting, Watching, Blank, Gone}
use Rattle.world_semantics.specs.declared.which.Which.TheVariants.{First, Second}
use Rattle.world_semantics.specs.Follows.{IsRun}
use Rattle.world_semantics.specs.Laws.{waiting_of}
use Rattle.world_semantics.specs.World.{Pair, World}
use Rattle.world_semantics.proofs.Fair.{AreTo, run-fair}
use Rattle.world_semantics.proofs.Tidy.{run-tidy}
use Rattle.world_semantics.proofs.Waiting.{AreSingle}
use Rattle.computed_changes.specs.Laws.{HasCopiesApart}
use Rattle.computed_changes.proofs.Homes.{AreApart}
use Rattle.computed_changes.proofs.Reached.{run-apart}
use Rattle.node_needs.specs.NodeNeeds.{if_there, needs_at, of_copies, waiting_at}
use Rattle.link_laws.specs.Effects.{StandApart}
use Rattle.link_laws.proofs.Taken.{there-is}

-- Lists

apart-append : {A : Type 0} (xs ys : List A) → StandApart xs → StandApart ys
    → ((x : A) → IsAmong x xs → IsAmong x ys → ⊥) → StandApart (xs ++ ys)
apart-append [] ys one other differ = other
apart-append (x ∷ xs) ys one other differ = (
  λ among. elim (among-either x xs ys among) [ inl here ↦ one.0 here | inr there ↦ differ x (inl refl) there ],
  apart-append xs ys one.1 other (λ y here there. differ y (inr here) there),
)

-- a request of this opener is there
one-waits : (request : Request) (waiting : List Request) → IsAmong request waiting
    → 1 ≤ waiting_of request.opener waiting
one-waits request [] among = absurd among
one-waits request (first ∷ rest) (inl same) =
    let its : (first.opener == request.opener) ≡ true =
    subst (λ (r : Request). (r.opener == request.opener) ≡ true) same (eq-eqb request.opener request.opener refl) in
    rw its (omega arith)
one-waits request (first ∷ rest) (inr among) = let more = one-waits request rest among in omega (arith, more)

single-apart : (waiting : List Request) → AreSingle waiting → StandApart waiting
single-apart [] single = tt
single-apart (first ∷ rest) single = (
  λ among.
      (let its : (first.opener == first.opener) ≡ true = eq-eqb first.opener first.opener refl in
      let least = single.single first.opener in
      let all : 1 + waiting_of first.opener rest ≤ 1 = rw its at least in
      let more = one-waits first rest among in
      omega (arith, all, more)),
  single-apart rest (record {
    single = λ opener.
        (let all = single.single opener in
        let here : ℕ = if first.opener == opener then 1 else 0 in
        omega (arith, all));
  }),
)

there-apart : (node : ℕ) (role : Role) (at : ℕ) (items : List Request) → StandApart items
    → StandApart (if_there node role at items)
there-apart node role at items apart = by role
  where
    where_it : (b : Bool) → StandApart (if b then items else [])
    where_it true = apart
    where_it false = tt

    by : (role : Role) → StandApart (if_there node role at items)
    by Acting = where_it (at == node)
    by Watching = where_it (at == node)
    by Blank = where_it (at == node)
    by Gone = tt

-- Copies

-- what waits at both copies of the process of a number is for it, each once, and the copies are in two processors
record HasOwn (number : ℕ) (pair : Pair) : Type 0 where
  pub first_to : AreTo number pair.first.waiting
  pub second_to : AreTo number pair.second.waiting
  pub first : StandApart pair.first.waiting
  pub second : StandApart pair.second.waiting
  pub apart : AreApart pair

module _ (node : ℕ) where
  abbrev Waiting : Pair → List Request
  Waiting pair = waiting_at node pair.first ++ waiting_at node pair.second

  pair-to : (number : ℕ) (pair : Pair) → HasOwn number pair → (request : Request) → IsAmong request (Waiting pair)
      → request.process ≡ number
  pair-to number pair own request among =
      elim (among-either request (waiting_at node pair.first) (waiting_at node pair.second) among) [
        | inl one ↦ own.first_to request (there-is node pair.first.role pair.first.processor pair.first.waiting request
            one).among
        | inr two ↦ own.second_to request (there-is node pair.second.role pair.second.processor pair.second.waiting
            request two).among
      ]

  pair-apart : (number : ℕ) (pair : Pair) → HasOwn number pair → StandApart (Waiting pair)
  pair-apart number pair own =
      apart-append (waiting_at node pair.first) (waiting_at node pair.second)
      (there-apart node pair.first.role pair.first.processor pair.first.waiting own.first)
      (there-apart node pair.second.role pair.second.processor pair.second.waiting own.second)
      (λ request one two. own.apart
      ((there-is node pair.first.role pair.first.processor pair.first.waiting request one).here
      ∙ sym (there-is node pair.second.role pair.second.processor pair.second.waiting request two).here))

  abbrev All : ℕ → List Pair → List Request
  All n pairs = of_copies (λ number copy. waiting_at node copy) n pairs

  abbrev EachHasOwn : ℕ → List Pair → Type 0
  EachHasOwn n pairs = (k : ℕ) (pair : Pair) → slice_get pairs k ≡ Some pair → HasOwn (n + k) pair

  first-own : (n : ℕ) (pair : Pair) (pairs : List Pair) → EachHasOwn n (pair ∷ pairs) → HasOwn n pair
  first-own n pair pairs own =
      let here : n + zero ≡ n = omega arith in subst (λ (m : ℕ). HasOwn m pair) here (own zero pair refl)

  later-own : (n : ℕ) (pair : Pair) (pairs : List Pair) → EachHasOwn n (pair ∷ pairs) → EachHasOwn (n + 1) pairs
  later-own n pair pairs own k one there =
      let further : n + suc k ≡ n + 1 + k = omega arith in
      subst (λ (m : ℕ). HasOwn m one) further (own (suc k) one there)

  all-later : (n : ℕ) (pairs : List Pair) → EachHasOwn n pairs → (request : Request) → IsAmong request (All n pairs)
      → n ≤ request.process
  all-later n [] own request among = absurd among
  all-later n (pair ∷ pairs) own request among =
      elim (among-either request (Waiting pair) (All (n + 1) pairs) among) [
        | inl here ↦ (let its = pair-to n pair (first-own n pair pairs own) request here in omega (arith, its))
        | inr later ↦ (let more = all-later (n + 1) pairs (later-own n pair pairs own) request later in
            omega (arith, more))
      ]

  all-apart : (n : ℕ) (pairs : List Pair) → EachHasOwn n pairs → StandApart (All n pairs)
  all-apart n [] own = tt
  all-apart n (pair ∷ pairs) own =
      apart-append (Waiting pair) (All (n + 1) pairs) (pair-apart n pair (first-own n pair pairs own))
      (all-apart (n + 1) pairs (later-own n pair pairs own))
      (λ request here later.
      (let its = pair-to n pair (first-own n pair pairs own) request here in
      let more = all-later (n + 1) pairs (later-own n pair pairs own) request later in
      omega (arith, its, more)))

pub waiting-apart : (site : Site) → HasCopiesApart site → {events : List Event} (w : World) → IsRun site events w
    → (node : ℕ) → StandApart (needs_at site w node).waiting
waiting-apart site apart w run node = all-apart node 0 w.processes own
  where
    own : EachHasOwn node 0 w.processes
    own number pair there =
        let same : number ≡ 0 + number = omega arith in
        subst (λ (m : ℕ). HasOwn m pair) same (record {
          first_to = (run-fair run number pair there).first.waiting;
          second_to = (run-fair run number pair there).second.waiting;
          first = single-apart pair.first.waiting (run-tidy run number pair there First).single;
          second = single-apart pair.second.waiting (run-tidy run number pair there Second).single;
          apart = run-apart apart run number pair there;
        })
