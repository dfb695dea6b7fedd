-- Whether a copy can take a request, or answer one.
use Rattle.std.proofs.Common.{◌≡◌, ◌<◌, ◌↔◌, ℕ, zero, suc, Bool, true, false, List, [], ◌∷◌, length, Option, Some, None}
use Rattle.std.proofs.Common.{slice_get, refl, ap, sym, subst, ◌∙◌, arith}
use Rattle.std.specs.Prelude.{is_some, IsTrue, IsSome}
use Rattle.std.specs.Option.{option_map}
use Rattle.std.proofs.lemmas.Option.{slice_get-map}
use Rattle.tal_tree.specs.declared.site.OpenerSpec.{OpenerSpec}
use Rattle.tal_tree.specs.declared.site.Site.{Site}
use Rattle.message_wires.specs.plain_semantics.specs.Openers.{openers_of}
use Rattle.checkpoint_image.specs.declared.receive.OpenerBlock.{OpenerBlock}
use Rattle.checkpoint_image.specs.declared.receive.ReceiveBlock.{ReceiveBlock}
use Rattle.checkpoint_image.specs.declared.receive.RequestStanding.TheVariants.{Next}
use Rattle.checkpoint_image.specs.Receive.{Chosen, choice_among, holds, standing_by}
use Rattle.process_control.specs.computed_changes.specs.Fitting.{depths_of}
use Rattle.file_calls.specs.sync_ids.specs.Tables.{IsSound, Remembered, are_of_depths, can_hold, is_unanswered}
use Rattle.file_calls.specs.sync_ids.proofs.Tables.{and-left, and-right, lengths}
use Rattle.kept_acts.specs.world_semantics.specs.Core.{Core}
use Rattle.kept_acts.specs.world_semantics.specs.Own.{Around}
use Rattle.kept_acts.specs.world_semantics.specs.Running.{own_answer, own_answer_at, own_take, own_took}
use Rattle.node_copies.proofs.Choosing.{chosen-next, request_of}

is-told : {A B : Type 0} (f : A → B) (o : Option A) → is_some (option_map f o) ≡ is_some o
is-told f None = refl
is-told f (Some x) = refl

-- Takes

pub wakes : (told : Bool) (found : Option Chosen) → (IsTrue told ↔ IsSome found) → told ≡ is_some found
wakes true None h = sym (h.0 refl)
wakes true (Some found) h = refl
wakes false None h = refl
wakes false (Some found) h = h.1 refl

there : (held : Bool) (block : Option OpenerBlock) (number : ℕ) → standing_by held block number ≡ Next
    → is_some block ≡ true
there held None number e = absurd (cc)
there held (Some block) number e = refl

by-choice : (number : ℕ) (core : Core) (before : Around) (found : Option Chosen)
    → choice_among core.receive before.waiting ≡ found
    → is_some (own_take number core before found) ≡ is_some found
by-choice number core before None e = refl
by-choice number core before (Some found) e =
    is-told (own_took number core before found) (slice_get core.receive.openers found.request.opener)
    ∙ there (holds core.receive found.request.opener) (slice_get core.receive.openers found.request.opener)
    found.request.number
    (chosen-next core.receive before.waiting found.request (ap request_of e))

-- a copy can take where a request stands Next
pub takes : (number : ℕ) (core : Core) (before : Around)
    → is_some (own_take number core before (choice_among core.receive before.waiting))
    ≡ is_some (choice_among core.receive before.waiting)
takes number core before = by-choice number core before (choice_among core.receive before.waiting) refl

-- Answers

unanswered : (block : Option OpenerBlock) → is_unanswered block ≡ true → is_some block ≡ true
unanswered None e = absurd (cc)
unanswered (Some block) e = refl

within : {A : Type 0} (xs : List A) (k : ℕ) → is_some (slice_get xs k) ≡ true → k < length xs
within [] k e = absurd (cc)
within (x ∷ xs) zero e = omega arith
within (x ∷ xs) (suc k) e = let less = within xs k e in omega (arith, less)

among : {A : Type 0} (xs : List A) (k : ℕ) → k < length xs → is_some (slice_get xs k) ≡ true
among [] k less = absurd (omega (arith, less))
among (x ∷ xs) zero less = refl
among (x ∷ xs) (suc k) less = among xs k (omega (arith, less))

both : (number : ℕ) (core : Core) (before : Around) (place : ℕ) (opener : Option OpenerSpec)
    (block : Option OpenerBlock) → is_some opener ≡ true → is_some block ≡ true
    → is_some (own_answer_at number core before place opener block) ≡ true
both number core before place None block o b = absurd (cc)
both number core before place (Some opener) None o b = absurd (cc)
both number core before place (Some opener) (Some block) o b = refl

by-hand : (site : Site) (number : ℕ) (core : Core) (before : Around) (hand : Option ℕ)
    → can_hold core.receive.openers hand ≡ true
    → length core.receive.openers ≡ length (depths_of site number)
    → is_some (own_answer site number core before hand) ≡ is_some hand
by-hand site number core before None held long = refl
by-hand site number core before (Some place) held long =
    let block = unanswered (slice_get core.receive.openers place) held in
    let less : place < length (depths_of site number) =
    subst (λ (n : ℕ). place < n) long (within core.receive.openers place block) in
    let depth = among (depths_of site number) place less in
    let opener : is_some (slice_get (openers_of site number) place) ≡ true =
    sym (ap (λ (o : Option ℕ). is_some o) (slice_get-map (λ (o : OpenerSpec). o.depth) (openers_of site number) place)
    ∙ is-told (λ (o : OpenerSpec). o.depth) (slice_get (openers_of site number) place)) ∙ depth in
    both number core before place (slice_get (openers_of site number) place) (slice_get core.receive.openers place)
    opener block

pub sound-as : (one : Remembered) (table : ReceiveBlock) (depths : List ℕ) → IsSound one → one.table ≡ table
    → one.depths ≡ depths
    → IsSound (record { table = table; depths = depths })
sound-as one table depths sound same deep =
    subst (λ (t : ReceiveBlock). IsSound (record { table = t; depths = depths })) same
    (subst (λ (ds : List ℕ). IsSound (record { table = one.table; depths = ds })) deep sound)

-- a copy can answer where a request is in hand
pub can-answer : (site : Site) (number : ℕ) (core : Core) (before : Around) (depths : List ℕ)
    → depths ≡ depths_of site number
    → IsSound (record { table = core.receive; depths = depths })
    → is_some (own_answer site number core before core.receive.in_hand) ≡ is_some core.receive.in_hand
can-answer site number core before depths here sound =
    by-hand site number core before core.receive.in_hand
    (and-right (are_of_depths core.receive.openers depths) (can_hold core.receive.openers core.receive.in_hand)
    sound.table)
    (lengths core.receive.openers depths (and-left (are_of_depths core.receive.openers depths)
    (can_hold core.receive.openers core.receive.in_hand) sound.table)
    ∙ ap (λ (ds : List ℕ). length ds) here)
