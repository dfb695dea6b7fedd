-- What waits is what waited, or what came, and the request that is taken stands Next.
use Rattle.std.proofs.Common.{◌≡◌, inl, inr, ℕ, ◌+◌, ◌==◌, ◌&&◌, nat_lt, Bool, true, false, if◌then◌else◌, ℤ, List, []}
use Rattle.std.proofs.Common.{◌∷◌, Option, Some, None, slice_get, refl, subst}
use Rattle.std.proofs.lemmas.Bool.{eqb-true}
use Rattle.gd_words.specs.Members.{IsAmong}
use Rattle.gd_words.specs.declared.message.Request.{Request}
use Rattle.world_semantics.specs.checkpoint_image.specs.declared.receive.OpenerBlock.{OpenerBlock}
use Rattle.world_semantics.specs.checkpoint_image.specs.declared.receive.ReceiveBlock.{ReceiveBlock}
use Rattle.world_semantics.specs.checkpoint_image.specs.declared.receive.RequestStanding.{RequestStanding}
use Rattle.world_semantics.specs.checkpoint_image.specs.declared.receive.RequestStanding.TheVariants.{Next, InHand}
use Rattle.world_semantics.specs.checkpoint_image.specs.declared.receive.RequestStanding.TheVariants.{Kept, Old, Ahead}
use Rattle.world_semantics.specs.checkpoint_image.specs.Receive.{Chosen, choice_among, chosen_by, chosen_after, is_next}
use Rattle.world_semantics.specs.checkpoint_image.specs.Receive.{is_waiting, request_standing}
use Rattle.world_semantics.specs.checkpoint_image.specs.Receive.{standing_by, standing_in, kept_or_old, reply_kept}
use Rattle.world_semantics.specs.checkpoint_image.specs.Receive.{answered, holds, waits}
use Rattle.world_semantics.specs.checkpoint_image.specs.Receive.{came, still_waiting}
use Rattle.world_semantics.proofs.Lists.{some-same}
use Rattle.world_semantics.proofs.Members.{among-filter}
use Rattle.world_semantics.proofs.Waiting.{waits-all}

pub came-all : (P : Request → Type 0) (table : ReceiveBlock) (waiting : List Request) (request : Request) → P request
    → ((one : Request) → IsAmong one waiting → P one)
    → (one : Request) → IsAmong one (came table waiting request) → P one
came-all P table waiting request new all one = by (is_waiting (request_standing table request))
  where
    by : (wait : Bool) → IsAmong one (if wait then waits waiting request else waiting) → P one
    by true among = waits-all P waiting request new all one among
    by false among = all one among

pub still-all : (P : Request → Type 0) (table : ReceiveBlock) (waiting : List Request)
    → ((one : Request) → IsAmong one waiting → P one)
    → (one : Request) → IsAmong one (still_waiting table waiting) → P one
still-all P table waiting all one among =
    all one (among-filter one (λ (r : Request). is_waiting (request_standing table r)) waiting among).0

-- the request that is taken waited, and has the number after the last that was taken
pub record IsChosen (table : ReceiveBlock) (waiting : List Request) (request : Request) : Type 0 where
  pub waited : IsAmong request waiting
  pub block : OpenerBlock
  pub there : slice_get table.openers request.opener ≡ Some block
  pub next : request.number ≡ block.taken + 1

is-next : (s : RequestStanding) → is_next s ≡ true → s ≡ Next
is-next Next e = refl
is-next InHand e = absurd (cc)
is-next (Kept words) e = absurd (cc)
is-next Old e = absurd (cc)
is-next Ahead e = absurd (cc)

next-in : (held : Bool) (block : OpenerBlock) (n : ℕ) → standing_in held block n ≡ Next → n ≡ block.taken + 1
next-in held block n e = by (n == block.taken + 1) (nat_lt (block.taken + 1) n) (held && n == block.taken)
    (reply_kept (answered held block) block.kept n) refl e
  where
    by : (same ahead hand : Bool) (kept : Option (List ℤ)) → (n == block.taken + 1) ≡ same
        → (if same then Next else if ahead then Ahead else if hand then InHand else kept_or_old kept) ≡ Next
        → n ≡ block.taken + 1
    by true ahead hand kept is e = eqb-true n (block.taken + 1) is
    by false true hand kept is e = absurd (cc)
    by false false true kept is e = absurd (cc)
    by false false false None is e = absurd (cc)
    by false false false (Some words) is e = absurd (cc)

next-by : (held : Bool) (block : Option OpenerBlock) (n : ℕ) → standing_by held block n ≡ Next
    → (b : OpenerBlock) × (block ≡ Some b) × (n ≡ b.taken + 1)
next-by held None n e = absurd (cc)
next-by held (Some block) n e = (block, refl, next-in held block n e)

pub chosen-is : (table : ReceiveBlock) (waiting : List Request) (found : Chosen)
    → choice_among table waiting ≡ Some found
    → IsChosen table waiting found.request
chosen-is table [] found e = absurd (cc)
chosen-is table (first ∷ rest) found e =
    by (λ later there. chosen-is table rest later there) (is_next (request_standing table first)) refl
    (choice_among table rest) refl
    e
  where
    up : (later : Chosen) → IsChosen table rest later.request → chosen_after first later ≡ found
        → IsChosen table (first ∷ rest) found.request
    up later is same = subst (λ (c : Chosen). IsChosen table (first ∷ rest) c.request) same
        (record { waited = inr is.waited; block = is.block; there = is.there; next = is.next })

    by : ((later : Chosen) → choice_among table rest ≡ Some later → IsChosen table rest later.request) → (test : Bool)
        → is_next (request_standing table first) ≡ test
        → (later : Option Chosen) → choice_among table rest ≡ later → chosen_by test first rest later ≡ Some found
        → IsChosen table (first ∷ rest) found.request
    by deeper true is later there e =
        let next = next-by (holds table first.opener) (slice_get table.openers first.opener) first.number
        (is-next (request_standing table first) is) in
        subst (λ (c : Chosen). IsChosen table (first ∷ rest) c.request) (some-same e)
        (record { waited = inl refl; block = next.0; there = next.1; next = next.2 })
    by deeper false is None there e = absurd (cc)
    by deeper false is (Some later) there e = up later (deeper later there) (some-same e)
