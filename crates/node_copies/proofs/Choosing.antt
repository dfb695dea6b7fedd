-- The waiting request that is taken stands Next.
use Rattle.std.proofs.Common.{◌≡◌, Bool, true, false, List, [], ◌∷◌, Option, Some, None, refl, subst}
use Rattle.std.specs.Option.{option_map}
use Rattle.gd_words.specs.declared.message.Request.{Request}
use Rattle.checkpoint_image.specs.declared.receive.ReceiveBlock.{ReceiveBlock}
use Rattle.checkpoint_image.specs.declared.receive.RequestStanding.{RequestStanding}
use Rattle.checkpoint_image.specs.declared.receive.RequestStanding.TheVariants.{Next, InHand, Kept, Old, Ahead}
use Rattle.checkpoint_image.specs.Receive.{Chosen, choice_among, chosen_by, is_next, request_standing}
use Rattle.kept_acts.specs.world_semantics.proofs.Lists.{some-same}

is-next : (s : RequestStanding) → is_next s ≡ true → s ≡ Next
is-next Next e = refl
is-next Ahead e = absurd (cc)
is-next InHand e = absurd (cc)
is-next (Kept words) e = absurd (cc)
is-next Old e = absurd (cc)

abbrev pub request_of : Option Chosen → Option Request
request_of found = option_map (λ (c : Chosen). c.request) found

by-first : (table : ReceiveBlock) (first : Request) (rest : List Request) (next : Bool) (later : Option Chosen)
    (request : Request)
    → is_next (request_standing table first) ≡ next
    → (request_of later ≡ Some request → request_standing table request ≡ Next)
    → request_of (chosen_by next first rest later) ≡ Some request → request_standing table request ≡ Next
by-first table first rest true later request next deeper e =
    subst (λ (r : Request). request_standing table r ≡ Next) (some-same e) (is-next (request_standing table first) next)
by-first table first rest false None request next deeper e = absurd (cc)
by-first table first rest false (Some c) request next deeper e = deeper e

pub chosen-next : (table : ReceiveBlock) (waiting : List Request) (request : Request)
    → request_of (choice_among table waiting) ≡ Some request
    → request_standing table request ≡ Next
chosen-next table [] request e = absurd (cc)
chosen-next table (first ∷ rest) request e =
    by-first table first rest (is_next (request_standing table first)) (choice_among table rest) request refl
    (chosen-next table rest request) e
