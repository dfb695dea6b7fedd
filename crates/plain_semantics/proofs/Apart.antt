-- An act that concerns other processes changes nothing that another act reads.
use Rattle.std.proofs.Common.{◌≡◌, inl, inr, ℕ, zero, suc, List, [], ◌∷◌, Option, Some, None, slice_get, slice_set}
use Rattle.std.proofs.Common.{refl, ap, sym, ◌∙◌}
use Rattle.std.specs.Option.{option_and_then, unwrap_or}
use Rattle.process_semantics.specs.tal_tree.specs.declared.act.Act.{Act}
use Rattle.process_semantics.specs.tal_tree.specs.declared.act.Act.TheVariants.{Step, Take, Enter, Print}
use Rattle.process_semantics.specs.tal_tree.specs.declared.site.Site.{Site}
use Rattle.process_semantics.specs.tal_tree.specs.declared.site.Who.TheVariants as who
use Rattle.process_semantics.specs.declared.point.Point.{Point}
use Rattle.process_semantics.specs.declared.point.Point.TheVariants as point
use Rattle.process_semantics.specs.Process as process
use Rattle.plain_semantics.specs.declared.slot.Opener.{Opener}
use Rattle.plain_semantics.specs.declared.slot.Slot.{Slot}
use Rattle.plain_semantics.specs.declared.slot.Slot.TheVariants.{Empty, Waiting, Taken, Answered}
use Rattle.plain_semantics.specs.Openers.{opener_of}
use Rattle.plain_semantics.specs.Machine.{Plain, PlainProcess, Made, with_process, with_slot, slot_put, slot_of}
use Rattle.plain_semantics.specs.Machine.{own_opener, got_made, answered_by, step_at, step_made, take_slot, take_at}
use Rattle.plain_semantics.specs.Machine.{take_made, entered_at, next_request, enter_request, enter_made, print_made}
use Rattle.plain_semantics.specs.Machine.{made}
use Rattle.process_semantics.specs.gd_words.specs.Members.{IsAmong}
use Rattle.plain_semantics.specs.Concerns.{server_in, asked_at, asked_by, concerned, terminals_in, AreApart}

set-other : {A : Type 0} (xs : List A) (i j : ℕ) (x : A) → (j ≡ i → ⊥) → slice_get (slice_set xs i x) j ≡ slice_get xs j
set-other [] i j x ne = refl
set-other (y ∷ xs) zero zero x ne = absurd (ne refl)
set-other (y ∷ xs) zero (suc j) x ne = refl
set-other (y ∷ xs) (suc i) zero x ne = refl
set-other (y ∷ xs) (suc i) (suc j) x ne = set-other xs i j x (λ e. ne (ap suc e))

-- what a process that isn't the opener's server has
abbrev Same : Plain → Plain → ℕ → Type 0
Same first second p = slice_get second.processes p ≡ slice_get first.processes p

put-other : (opener : Opener) (slot : Slot) (plain : Plain) (server : Option PlainProcess) (p : ℕ)
    → (p ≡ opener.server → ⊥)
    → Same plain (slot_put opener slot plain server) p
put-other opener slot plain None p ne = refl
put-other opener slot plain (Some server) p ne =
    set-other plain.processes opener.server p (record server { slots = slice_set server.slots opener.place slot }) ne

slot-other : (opener : Option Opener) (slot : Slot) (plain : Plain) (p : ℕ) → (IsAmong p (server_in opener) → ⊥)
    → Same plain (with_slot opener slot plain) p
slot-other None slot plain p out = refl
slot-other (Some opener) slot plain p out =
    put-other opener slot plain (slice_get plain.processes opener.server) p (λ e. out (inl e))

process-other : (number : ℕ) (changed : PlainProcess) (plain : Plain) (p : ℕ) → (p ≡ number → ⊥)
    → Same plain (with_process number changed plain) p
process-other number changed plain p ne = set-other plain.processes number p changed ne

-- a slot and a process
both-other : (number : ℕ) (changed : PlainProcess) (opener : Option Opener) (slot : Slot) (plain : Plain) (p : ℕ)
    → (p ≡ number → ⊥) → (IsAmong p (server_in opener) → ⊥)
    → Same plain (with_slot opener slot (with_process number changed plain)) p
both-other number changed opener slot plain p ne out =
    slot-other opener slot (with_process number changed plain) p out ∙ process-other number changed plain p ne

some-made : (a b : Made) → ◌≡◌ {A = Option Made} (Some a) (Some b) → a ≡ b
some-made a b same = cc

got-other : (number : ℕ) (one : PlainProcess) (opener : Option Opener) (plain : Plain) (slot : Option Slot) (m : Made)
    (p : ℕ)
    → got_made number one opener plain slot ≡ Some m → (p ≡ number → ⊥) → (IsAmong p (server_in opener) → ⊥)
    → Same plain m.plain p
got-other number one opener plain None m p came ne out = absurd (cc)
got-other number one opener plain (Some Empty) m p came ne out = absurd (cc)
got-other number one opener plain (Some (Waiting words)) m p came ne out = absurd (cc)
got-other number one opener plain (Some Taken) m p came ne out = absurd (cc)
got-other number one opener plain (Some (Answered words)) m p came ne out =
    ap (λ (m : Made). slice_get m.plain.processes p) (sym (some-made _ m came))
    ∙ both-other number (record one { state = process.after_got one.state words }) opener Empty plain p ne out

answer-other : (number : ℕ) (hand : Option ℕ) (p : ℕ) → (p ≡ number → ⊥)
    → IsAmong p (server_in (answered_by number hand)) → ⊥
answer-other number None p ne found = found
answer-other number (Some place) p ne (inl e) = ne e
answer-other number (Some place) p ne (inr found) = found

step-other : (site : Site) (number : ℕ) (one : PlainProcess) (plain : Plain) (stands : Point) (m : Made) (p : ℕ)
    → step_at site number one plain stands ≡ Some m
    → (p ≡ number → ⊥) → (IsAmong p (asked_at site number one stands) → ⊥) → Same plain m.plain p
step-other site number one plain point.Inner m p came ne out =
    ap (λ (m : Made). slice_get m.plain.processes p) (sym (some-made _ m came))
    ∙ process-other number (record one { state = process.after_inner one.state }) plain p ne
step-other site number one plain point.Ask m p came ne out =
    ap (λ (m : Made). slice_get m.plain.processes p) (sym (some-made _ m came))
    ∙ both-other number (record one { state = process.after_asked one.state }) (own_opener site number one)
    (Waiting (process.asked_words one.state)) plain p ne out
step-other site number one plain point.Await m p came ne out =
    got-other number one (own_opener site number one) plain (slot_of plain (own_opener site number one)) m p came ne out
step-other site number one plain point.Answer m p came ne out =
    ap (λ (m : Made). slice_get m.plain.processes p) (sym (some-made _ m came))
    ∙ both-other number (record one { state = process.after_answered one.state; hand = None })
    (answered_by number one.hand) (Answered (process.answer_of one.state)) plain p ne
    (answer-other number one.hand p ne)
step-other site number one plain point.AtCheckpoint m p came ne out =
    ap (λ (m : Made). slice_get m.plain.processes p) (sym (some-made _ m came))
    ∙ process-other number (record one { state = process.after_checkpoint one.state }) plain p ne
step-other site number one plain point.Device m p came ne out =
    ap (λ (m : Made). slice_get m.plain.processes p) (sym (some-made _ m came))
    ∙ process-other number _ plain p ne
step-other site number one plain point.Take m p came ne out = absurd (cc)
step-other site number one plain point.Ended m p came ne out = absurd (cc)

took-other : (number place : ℕ) (one : PlainProcess) (plain : Plain) (slot : Option Slot) (m : Made) (p : ℕ)
    → take_slot number place one plain slot ≡ Some m
    → (p ≡ number → ⊥) → Same plain m.plain p
took-other number place one plain None m p came ne = absurd (cc)
took-other number place one plain (Some Empty) m p came ne = absurd (cc)
took-other number place one plain (Some Taken) m p came ne = absurd (cc)
took-other number place one plain (Some (Answered words)) m p came ne = absurd (cc)
took-other number place one plain (Some (Waiting words)) m p came ne =
    ap (λ (m : Made). slice_get m.plain.processes p) (sym (some-made _ m came)) ∙ process-other number _ plain p ne

take-other : (number place : ℕ) (one : PlainProcess) (plain : Plain) (stands : Point) (m : Made) (p : ℕ)
    → take_at number place one plain stands ≡ Some m
    → (p ≡ number → ⊥) → Same plain m.plain p
take-other number place one plain point.Take m p came ne =
    took-other number place one plain (slice_get one.slots place) m p came ne
take-other number place one plain point.Inner m p came ne = absurd (cc)
take-other number place one plain point.Ask m p came ne = absurd (cc)
take-other number place one plain point.Await m p came ne = absurd (cc)
take-other number place one plain point.Answer m p came ne = absurd (cc)
take-other number place one plain point.AtCheckpoint m p came ne = absurd (cc)
take-other number place one plain point.Device m p came ne = absurd (cc)
take-other number place one plain point.Ended m p came ne = absurd (cc)

request-other : (terminal : ℕ) (opener : Option Opener) (plain : Plain) (request : Option (List _)) (m : Made) (p : ℕ)
    → enter_request terminal opener plain request ≡ Some m
    → (IsAmong p (server_in opener) → ⊥) → Same plain m.plain p
request-other terminal opener plain None m p came out = absurd (cc)
request-other terminal opener plain (Some words) m p came out =
    ap (λ (m : Made). slice_get m.plain.processes p) (sym (some-made _ m came))
    ∙ slot-other opener (Waiting words) _ p out

enter-other : (site : Site) (terminal : ℕ) (opener : Option Opener) (plain : Plain) (slot : Option Slot) (m : Made)
    (p : ℕ)
    → enter_made site terminal opener plain slot ≡ Some m → (IsAmong p (server_in opener) → ⊥) → Same plain m.plain p
enter-other site terminal opener plain None m p came out = absurd (cc)
enter-other site terminal opener plain (Some Empty) m p came out =
    request-other terminal opener plain (next_request site terminal (entered_at plain terminal)) m p came out
enter-other site terminal opener plain (Some (Waiting words)) m p came out = absurd (cc)
enter-other site terminal opener plain (Some Taken) m p came out = absurd (cc)
enter-other site terminal opener plain (Some (Answered words)) m p came out = absurd (cc)

print-other : (terminal : ℕ) (opener : Option Opener) (plain : Plain) (slot : Option Slot) (m : Made) (p : ℕ)
    → print_made terminal opener plain slot ≡ Some m → (IsAmong p (server_in opener) → ⊥) → Same plain m.plain p
print-other terminal opener plain None m p came out = absurd (cc)
print-other terminal opener plain (Some Empty) m p came out = absurd (cc)
print-other terminal opener plain (Some (Waiting words)) m p came out = absurd (cc)
print-other terminal opener plain (Some Taken) m p came out = absurd (cc)
print-other terminal opener plain (Some (Answered words)) m p came out =
    ap (λ (m : Made). slice_get m.plain.processes p) (sym (some-made _ m came)) ∙ slot-other opener Empty plain p out

stepped-other : (site : Site) (number : ℕ) (plain : Plain) (one : Option PlainProcess) (m : Made) (p : ℕ)
    → step_made site number plain one ≡ Some m
    → (IsAmong p (number ∷ asked_by site number one) → ⊥) → Same plain m.plain p
stepped-other site number plain None m p came out = absurd (cc)
stepped-other site number plain (Some one) m p came out =
    step-other site number one plain (process.point one.state) m p came (λ e. out (inl e)) (λ found. out (inr found))

taken-other : (number place : ℕ) (plain : Plain) (one : Option PlainProcess) (m : Made) (p : ℕ)
    → take_made number place plain one ≡ Some m
    → (p ≡ number → ⊥) → Same plain m.plain p
taken-other number place plain None m p came ne = absurd (cc)
taken-other number place plain (Some one) m p came ne =
    take-other number place one plain (process.point one.state) m p came ne

-- a process that an act doesn't concern is as before
pub made-other : (site : Site) (plain : Plain) (act : Act) (m : Made) (p : ℕ) → made site plain act ≡ Some m
    → (IsAmong p (concerned site plain act) → ⊥)
    → Same plain m.plain p
made-other site plain (Step number) m p came out =
    stepped-other site number plain (slice_get plain.processes number) m p came out
made-other site plain (Take number place) m p came out =
    taken-other number place plain (slice_get plain.processes number) m p came (λ e. out (inl e))
made-other site plain (Enter terminal) m p came out =
    enter-other site terminal (opener_of site (who.Terminal terminal)) plain
    (slot_of plain (opener_of site (who.Terminal terminal))) m p came out
made-other site plain (Print terminal) m p came out =
    print-other terminal (opener_of site (who.Terminal terminal)) plain
    (slot_of plain (opener_of site (who.Terminal terminal))) m p came out

-- Counts of entered requests

put-entered : (opener : Opener) (slot : Slot) (plain : Plain) (server : Option PlainProcess)
    → (slot_put opener slot plain server).entered ≡ plain.entered
put-entered opener slot plain None = refl
put-entered opener slot plain (Some server) = refl

slot-entered : (opener : Option Opener) (slot : Slot) (plain : Plain)
    → (with_slot opener slot plain).entered ≡ plain.entered
slot-entered None slot plain = refl
slot-entered (Some opener) slot plain = put-entered opener slot plain (slice_get plain.processes opener.server)

got-entered : (number : ℕ) (one : PlainProcess) (opener : Option Opener) (plain : Plain) (slot : Option Slot) (m : Made)
    → got_made number one opener plain slot ≡ Some m → m.plain.entered ≡ plain.entered
got-entered number one opener plain None m came = absurd (cc)
got-entered number one opener plain (Some Empty) m came = absurd (cc)
got-entered number one opener plain (Some (Waiting words)) m came = absurd (cc)
got-entered number one opener plain (Some Taken) m came = absurd (cc)
got-entered number one opener plain (Some (Answered words)) m came =
    ap (λ (m : Made). m.plain.entered) (sym (some-made _ m came)) ∙ slot-entered opener Empty _

step-entered : (site : Site) (number : ℕ) (one : PlainProcess) (plain : Plain) (stands : Point) (m : Made)
    → step_at site number one plain stands ≡ Some m
    → m.plain.entered ≡ plain.entered
step-entered site number one plain point.Inner m came = ap (λ (m : Made). m.plain.entered) (sym (some-made _ m came))
step-entered site number one plain point.Ask m came =
    ap (λ (m : Made). m.plain.entered) (sym (some-made _ m came))
    ∙ slot-entered (own_opener site number one) (Waiting (process.asked_words one.state)) _
step-entered site number one plain point.Await m came =
    got-entered number one (own_opener site number one) plain (slot_of plain (own_opener site number one)) m came
step-entered site number one plain point.Answer m came =
    ap (λ (m : Made). m.plain.entered) (sym (some-made _ m came))
    ∙ slot-entered (answered_by number one.hand) (Answered (process.answer_of one.state)) _
step-entered site number one plain point.AtCheckpoint m came =
    ap (λ (m : Made). m.plain.entered) (sym (some-made _ m came))
step-entered site number one plain point.Device m came = ap (λ (m : Made). m.plain.entered) (sym (some-made _ m came))
step-entered site number one plain point.Take m came = absurd (cc)
step-entered site number one plain point.Ended m came = absurd (cc)

took-entered : (number place : ℕ) (one : PlainProcess) (plain : Plain) (slot : Option Slot) (m : Made)
    → take_slot number place one plain slot ≡ Some m
    → m.plain.entered ≡ plain.entered
took-entered number place one plain None m came = absurd (cc)
took-entered number place one plain (Some Empty) m came = absurd (cc)
took-entered number place one plain (Some Taken) m came = absurd (cc)
took-entered number place one plain (Some (Answered words)) m came = absurd (cc)
took-entered number place one plain (Some (Waiting words)) m came =
    ap (λ (m : Made). m.plain.entered) (sym (some-made _ m came))

take-entered : (number place : ℕ) (one : PlainProcess) (plain : Plain) (stands : Point) (m : Made)
    → take_at number place one plain stands ≡ Some m
    → m.plain.entered ≡ plain.entered
take-entered number place one plain point.Take m came =
    took-entered number place one plain (slice_get one.slots place) m came
take-entered number place one plain point.Inner m came = absurd (cc)
take-entered number place one plain point.Ask m came = absurd (cc)
take-entered number place one plain point.Await m came = absurd (cc)
take-entered number place one plain point.Answer m came = absurd (cc)
take-entered number place one plain point.AtCheckpoint m came = absurd (cc)
take-entered number place one plain point.Device m came = absurd (cc)
take-entered number place one plain point.Ended m came = absurd (cc)

stepped-entered : (site : Site) (number : ℕ) (plain : Plain) (one : Option PlainProcess) (m : Made)
    → step_made site number plain one ≡ Some m
    → m.plain.entered ≡ plain.entered
stepped-entered site number plain None m came = absurd (cc)
stepped-entered site number plain (Some one) m came =
    step-entered site number one plain (process.point one.state) m came

taken-entered : (number place : ℕ) (plain : Plain) (one : Option PlainProcess) (m : Made)
    → take_made number place plain one ≡ Some m
    → m.plain.entered ≡ plain.entered
taken-entered number place plain None m came = absurd (cc)
taken-entered number place plain (Some one) m came =
    take-entered number place one plain (process.point one.state) m came

request-entered : (terminal : ℕ) (opener : Option Opener) (plain : Plain) (request : Option (List _)) (m : Made) (t : ℕ)
    → enter_request terminal opener plain request ≡ Some m → (t ≡ terminal → ⊥)
    → entered_at m.plain t ≡ entered_at plain t
request-entered terminal opener plain None m t came ne = absurd (cc)
request-entered terminal opener plain (Some words) m t came ne =
    ap (λ (m : Made). entered_at m.plain t) (sym (some-made _ m came))
    ∙ ap (λ entered. unwrap_or (slice_get entered t) 0) (slot-entered opener (Waiting words) _)
    ∙ ap (λ found. unwrap_or found 0) (set-other plain.entered terminal t _ ne)

enter-entered : (site : Site) (terminal : ℕ) (opener : Option Opener) (plain : Plain) (slot : Option Slot) (m : Made)
    (t : ℕ)
    → enter_made site terminal opener plain slot ≡ Some m → (t ≡ terminal → ⊥)
    → entered_at m.plain t ≡ entered_at plain t
enter-entered site terminal opener plain None m t came ne = absurd (cc)
enter-entered site terminal opener plain (Some Empty) m t came ne =
    request-entered terminal opener plain (next_request site terminal (entered_at plain terminal)) m t came ne
enter-entered site terminal opener plain (Some (Waiting words)) m t came ne = absurd (cc)
enter-entered site terminal opener plain (Some Taken) m t came ne = absurd (cc)
enter-entered site terminal opener plain (Some (Answered words)) m t came ne = absurd (cc)

print-entered : (terminal : ℕ) (opener : Option Opener) (plain : Plain) (slot : Option Slot) (m : Made)
    → print_made terminal opener plain slot ≡ Some m
    → m.plain.entered ≡ plain.entered
print-entered terminal opener plain None m came = absurd (cc)
print-entered terminal opener plain (Some Empty) m came = absurd (cc)
print-entered terminal opener plain (Some (Waiting words)) m came = absurd (cc)
print-entered terminal opener plain (Some Taken) m came = absurd (cc)
print-entered terminal opener plain (Some (Answered words)) m came =
    ap (λ (m : Made). m.plain.entered) (sym (some-made _ m came)) ∙ slot-entered opener Empty plain

at-terminal : (first second : Plain) (t : ℕ) → second.entered ≡ first.entered → entered_at second t ≡ entered_at first t
at-terminal first second t same = ap (λ entered. unwrap_or (slice_get entered t) 0) same

-- a terminal that an act isn't of has entered as many requests as before
pub made-entered : (site : Site) (plain : Plain) (act : Act) (m : Made) (t : ℕ) → made site plain act ≡ Some m
    → (IsAmong t (terminals_in act) → ⊥)
    → entered_at m.plain t ≡ entered_at plain t
made-entered site plain (Step number) m t came out =
    at-terminal plain m.plain t (stepped-entered site number plain (slice_get plain.processes number) m came)
made-entered site plain (Take number place) m t came out =
    at-terminal plain m.plain t (taken-entered number place plain (slice_get plain.processes number) m came)
made-entered site plain (Enter terminal) m t came out =
    enter-entered site terminal (opener_of site (who.Terminal terminal)) plain
    (slot_of plain (opener_of site (who.Terminal terminal))) m t came (λ e. out (inl e))
made-entered site plain (Print terminal) m t came out =
    at-terminal plain m.plain t (print-entered terminal (opener_of site (who.Terminal terminal)) plain
    (slot_of plain (opener_of site (who.Terminal terminal))) m came)

-- What an act reads

slot-same : (first second : Plain) (opener : Option Opener)
    → ((p : ℕ) → IsAmong p (server_in opener) → Same first second p) → slot_of second opener ≡ slot_of first opener
slot-same first second None same = refl
slot-same first second (Some opener) same =
    ap (λ server. option_and_then (λ (server : PlainProcess). slice_get server.slots opener.place) server)
    (same opener.server (inl refl))

got-still : (number : ℕ) (one : PlainProcess) (opener : Option Opener) (first second : Plain) (slot : Option Slot)
    → got_made number one opener first slot ≡ None → got_made number one opener second slot ≡ None
got-still number one opener first second None none = refl
got-still number one opener first second (Some Empty) none = refl
got-still number one opener first second (Some (Waiting words)) none = refl
got-still number one opener first second (Some Taken) none = refl
got-still number one opener first second (Some (Answered words)) none = absurd (cc)

step-still : (site : Site) (number : ℕ) (one : PlainProcess) (first second : Plain) (stands : Point)
    → ((p : ℕ) → IsAmong p (asked_at site number one stands) → Same first second p)
    → step_at site number one first stands ≡ None → step_at site number one second stands ≡ None
step-still site number one first second point.Inner same none = absurd (cc)
step-still site number one first second point.Ask same none = absurd (cc)
step-still site number one first second point.Await same none =
    ap (got_made number one (own_opener site number one) second)
    (slot-same first second (own_opener site number one) same)
    ∙ got-still number one (own_opener site number one) first second (slot_of first (own_opener site number one)) none
step-still site number one first second point.Answer same none = absurd (cc)
step-still site number one first second point.AtCheckpoint same none = absurd (cc)
step-still site number one first second point.Device same none = absurd (cc)
step-still site number one first second point.Take same none = refl
step-still site number one first second point.Ended same none = refl

stepped-still : (site : Site) (number : ℕ) (first second : Plain) (one : Option PlainProcess)
    → ((p : ℕ) → IsAmong p (number ∷ asked_by site number one) → Same first second p)
    → step_made site number first one ≡ None → step_made site number second one ≡ None
stepped-still site number first second None same none = refl
stepped-still site number first second (Some one) same none =
    step-still site number one first second (process.point one.state) (λ p found. same p (inr found)) none

took-still : (number place : ℕ) (one : PlainProcess) (first second : Plain) (slot : Option Slot)
    → take_slot number place one first slot ≡ None → take_slot number place one second slot ≡ None
took-still number place one first second None none = refl
took-still number place one first second (Some Empty) none = refl
took-still number place one first second (Some Taken) none = refl
took-still number place one first second (Some (Answered words)) none = refl
took-still number place one first second (Some (Waiting words)) none = absurd (cc)

take-still : (number place : ℕ) (one : PlainProcess) (first second : Plain) (stands : Point)
    → take_at number place one first stands ≡ None → take_at number place one second stands ≡ None
take-still number place one first second point.Take none =
    took-still number place one first second (slice_get one.slots place) none
take-still number place one first second point.Inner none = refl
take-still number place one first second point.Ask none = refl
take-still number place one first second point.Await none = refl
take-still number place one first second point.Answer none = refl
take-still number place one first second point.AtCheckpoint none = refl
take-still number place one first second point.Device none = refl
take-still number place one first second point.Ended none = refl

taken-still : (number place : ℕ) (first second : Plain) (one : Option PlainProcess)
    → take_made number place first one ≡ None → take_made number place second one ≡ None
taken-still number place first second None none = refl
taken-still number place first second (Some one) none =
    take-still number place one first second (process.point one.state) none

request-still : (terminal : ℕ) (opener : Option Opener) (first second : Plain) (request : Option (List _))
    → enter_request terminal opener first request ≡ None → enter_request terminal opener second request ≡ None
request-still terminal opener first second None none = refl
request-still terminal opener first second (Some words) none = absurd (cc)

enter-still : (site : Site) (terminal : ℕ) (opener : Option Opener) (first second : Plain) (slot : Option Slot)
    → entered_at second terminal ≡ entered_at first terminal
    → enter_made site terminal opener first slot ≡ None → enter_made site terminal opener second slot ≡ None
enter-still site terminal opener first second None same none = refl
enter-still site terminal opener first second (Some Empty) same none =
    ap (λ entered. enter_request terminal opener second (next_request site terminal entered)) same
    ∙ request-still terminal opener first second (next_request site terminal (entered_at first terminal)) none
enter-still site terminal opener first second (Some (Waiting words)) same none = refl
enter-still site terminal opener first second (Some Taken) same none = refl
enter-still site terminal opener first second (Some (Answered words)) same none = refl

print-still : (terminal : ℕ) (opener : Option Opener) (first second : Plain) (slot : Option Slot)
    → print_made terminal opener first slot ≡ None → print_made terminal opener second slot ≡ None
print-still terminal opener first second None none = refl
print-still terminal opener first second (Some Empty) none = refl
print-still terminal opener first second (Some (Waiting words)) none = refl
print-still terminal opener first second (Some Taken) none = refl
print-still terminal opener first second (Some (Answered words)) none = absurd (cc)

made-still : (site : Site) (first second : Plain) (act : Act)
    → ((p : ℕ) → IsAmong p (concerned site first act) → Same first second p)
    → ((t : ℕ) → IsAmong t (terminals_in act) → entered_at second t ≡ entered_at first t) → made site first act ≡ None
    → made site second act ≡ None
made-still site first second (Step number) same entered none =
    ap (step_made site number second) (same number (inl refl))
    ∙ stepped-still site number first second (slice_get first.processes number) same none
made-still site first second (Take number place) same entered none =
    ap (take_made number place second) (same number (inl refl))
    ∙ taken-still number place first second (slice_get first.processes number) none
made-still site first second (Enter terminal) same entered none =
    ap (enter_made site terminal (opener_of site (who.Terminal terminal)) second)
    (slot-same first second (opener_of site (who.Terminal terminal)) same)
    ∙ enter-still site terminal (opener_of site (who.Terminal terminal)) first second
    (slot_of first (opener_of site (who.Terminal terminal))) (entered terminal (inl refl)) none
made-still site first second (Print terminal) same entered none =
    ap (print_made terminal (opener_of site (who.Terminal terminal)) second)
    (slot-same first second (opener_of site (who.Terminal terminal)) same)
    ∙ print-still terminal (opener_of site (who.Terminal terminal)) first second
    (slot_of first (opener_of site (who.Terminal terminal))) none

-- an act that isn't possible stays so after one that is apart from it
pub apart-still : (site : Site) (plain : Plain) (first second : Act) (m : Made) → made site plain first ≡ None
    → made site plain second ≡ Some m
    → AreApart site plain first second → made site m.plain first ≡ None
apart-still site plain first second m none came apart =
    made-still site plain m.plain first (λ p found.
    made-other site plain second m p came (λ other. apart.processes p found other))
    (λ t found. made-entered site plain second m t came (λ other. apart.terminals t found other)) none
