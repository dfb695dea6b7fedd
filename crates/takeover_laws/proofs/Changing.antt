-- What changes leave of held acts, sectors and waiting requests.
use Rattle.std.proofs.Common.{◌≡◌, ◌≤◌, ℕ, ◌+◌, Bool, true, false, if◌then◌else◌, List, [], ◌∷◌, ◌++◌, length, Option}
use Rattle.std.proofs.Common.{Some, None, refl, arith}
use Rattle.gd_words.specs.Members.{IsAmong}
use Rattle.gd_words.specs.declared.message.Request.{Request}
use Rattle.tal_tree.specs.declared.act.Act.{Act}
use Rattle.tal_tree.specs.declared.act.Act.TheVariants.{Step}
use Rattle.tal_tree.specs.declared.site.Site.{Site}
use Rattle.world_semantics.specs.Core.{Core, Deed}
use Rattle.world_semantics.specs.Kept.{is_own, own_acts}
use Rattle.world_semantics.specs.Messages.{Message, Sending, Cause, Stopping, MarkingDown, Reloading}
use Rattle.world_semantics.specs.Own.{Around, Causes, by_inner, by_take, by_ask, by_answer, by_device, by_write}
use Rattle.world_semantics.specs.Own.{by_reply}
use Rattle.world_semantics.specs.Passes.{Passes, by_send, by_pass_again, by_pass, by_apply, by_acknowledge}
use Rattle.world_semantics.specs.Passes.{kept_at_checkpoint, by_apply_behind, by_end, kept_at, point_at}
use Rattle.world_semantics.specs.Rules.{stopped_pair, pair_after_down, reloaded_by, renewals_ended}
use Rattle.world_semantics.specs.declared.which.Which.{Which}
use Rattle.world_semantics.specs.declared.which.Which.TheVariants.{First, Second}
use Rattle.world_semantics.specs.World.{Copy, Pair, Down, copy_of, with_copy}
use Rattle.world_semantics.proofs.Counting.{own-append, own-step, own-one}
use Rattle.world_semantics.specs.Shares.{acts_at}
use Rattle.takeover_laws.proofs.Waiting.{still-all}
use Rattle.process_semantics.specs.declared.point.Point.{Point}
use Rattle.process_semantics.specs.declared.point.Point.TheVariants as point

-- how many acts a change adds at most
abbrev pub acts_by : Cause → ℕ
acts_by (Stopping processor) = 0
acts_by (MarkingDown node processor) = 0
acts_by (Reloading processor) = 0
acts_by _ = 1

pub causes-one : {site : Site} {number node : ℕ} {core : Core} {before after : Around} {cause : Cause} {deed : Deed}
    {act : Act} {messages : List Message}
    → Causes site number node core before cause deed act messages after → acts_by cause ≡ 1
causes-one by_inner = refl
causes-one (by_take is) = refl
causes-one by_ask = refl
causes-one (by_answer there) = refl
causes-one (by_device stood) = refl
causes-one (by_write new) = refl
causes-one (by_reply among is last said) = refl

pub passes-one : {number : ℕ} {downs : List Down} {kept after : List Act} {pair next : Pair} {cause : Cause}
    {sendings : List Sending}
    → Passes number downs kept pair cause sendings next after → acts_by cause ≡ 1
passes-one (by_send k role at sent unmarked) = refl
passes-one (by_pass_again k role at may less) = refl
passes-one (by_pass k role at may most) = refl
passes-one (by_end k role sent away may) = refl
passes-one (by_apply_behind k message applied role sent era is put at) = refl
passes-one (by_apply k message applied role sent era is put at) = refl
passes-one (by_acknowledge k taken role sent among era is) = refl

-- Held acts, sectors and waiting requests after a checkpoint went on

one-most : (test : Bool) → (if test then 1 else 0) ≤ 1
one-most true = omega arith
one-most false = omega arith

own-most : (number : ℕ) (acts : List Act) → own_acts number acts ≤ length acts
own-most number [] = omega arith
own-most number (act ∷ acts) =
    let one = one-most (is_own number act) in let rest = own-most number acts in omega (arith, one, rest)

kept-most : (number : ℕ) (copy : Copy) (kept : List Act)
    → own_acts number (kept_at_checkpoint number copy kept) ≤ length copy.held + own_acts number kept + 1
kept-most number copy kept =
    let held = own-most number copy.held in
    rw (own-one number (Step number) (copy.held ++ kept) (own-step number), own-append number copy.held kept)
    (omega (arith, held))

step-most : (number : ℕ) (p : Point) → own_acts number (acts_at number p) ≤ 1
step-most number point.AtCheckpoint = own-most number (Step number ∷ [])
step-most number point.Inner = omega arith
step-most number point.Take = omega arith
step-most number point.Ask = omega arith
step-most number point.Await = omega arith
step-most number point.Answer = omega arith
step-most number point.Device = omega arith
step-most number point.Ended = omega arith

kept-at-most : (number : ℕ) (copy : Copy) (kept : List Act)
    → own_acts number (kept_at number copy kept) ≤ length copy.held + own_acts number kept + 1
kept-at-most number copy kept =
    let held = own-most number copy.held in
    let step = step-most number (point_at copy) in
    rw (own-append number (acts_at number (point_at copy)) (copy.held ++ kept), own-append number copy.held kept)
    (omega (arith, held, step))

pub passes-held : {number : ℕ} {downs : List Down} {kept after : List Act} {pair next : Pair} {cause : Cause}
    {sendings : List Sending}
    → Passes number downs kept pair cause sendings next after
    → length next.first.held + length next.second.held + own_acts number after
    ≤ length pair.first.held + length pair.second.held + own_acts number kept + 1
passes-held (by_send First role at sent unmarked) = omega arith
passes-held (by_send Second role at sent unmarked) = omega arith
passes-held (by_pass_again First role at may less) = omega arith
passes-held (by_pass_again Second role at may less) = omega arith
passes-held {number = n} {kept = kept} {pair = pair} (by_pass First role at may most) =
    let few = kept-most n pair.first kept in omega (arith, few)
passes-held {number = n} {kept = kept} {pair = pair} (by_pass Second role at may most) =
    let few = kept-most n pair.second kept in omega (arith, few)
passes-held (by_end First role sent away may) = omega arith
passes-held (by_end Second role sent away may) = omega arith
passes-held (by_apply_behind First message applied role sent era is put at) = omega arith
passes-held (by_apply_behind Second message applied role sent era is put at) = omega arith
passes-held {number = n} {kept = kept} {pair = pair} (by_apply First message applied role sent era is put at) =
    let few = kept-at-most n pair.second kept in omega (arith, few)
passes-held {number = n} {kept = kept} {pair = pair} (by_apply Second message applied role sent era is put at) =
    let few = kept-at-most n pair.first kept in omega (arith, few)
passes-held (by_acknowledge First taken role sent among era is) = omega arith
passes-held (by_acknowledge Second taken role sent among era is) = omega arith

pub passes-sectors : {number : ℕ} {downs : List Down} {kept after : List Act} {pair next : Pair} {cause : Cause}
    {sendings : List Sending}
    → Passes number downs kept pair cause sendings next after → next.sectors ≡ pair.sectors
passes-sectors (by_send First role at sent unmarked) = refl
passes-sectors (by_send Second role at sent unmarked) = refl
passes-sectors (by_pass_again First role at may less) = refl
passes-sectors (by_pass_again Second role at may less) = refl
passes-sectors (by_pass First role at may most) = refl
passes-sectors (by_pass Second role at may most) = refl
passes-sectors (by_end First role sent away may) = refl
passes-sectors (by_end Second role sent away may) = refl
passes-sectors (by_apply_behind First message applied role sent era is put at) = refl
passes-sectors (by_apply_behind Second message applied role sent era is put at) = refl
passes-sectors (by_apply First message applied role sent era is put at) = refl
passes-sectors (by_apply Second message applied role sent era is put at) = refl
passes-sectors (by_acknowledge First taken role sent among era is) = refl
passes-sectors (by_acknowledge Second taken role sent among era is) = refl

pub passes-waiting : {number : ℕ} {downs : List Down} {kept after : List Act} {pair next : Pair} {cause : Cause}
    {sendings : List Sending}
    → Passes number downs kept pair cause sendings next after → (k : Which)
    → (copy_of k next).waiting ≡ (copy_of k pair).waiting
passes-waiting (by_send First role at sent unmarked) First = refl
passes-waiting (by_send First role at sent unmarked) Second = refl
passes-waiting (by_send Second role at sent unmarked) First = refl
passes-waiting (by_send Second role at sent unmarked) Second = refl
passes-waiting (by_pass_again First role at may less) First = refl
passes-waiting (by_pass_again First role at may less) Second = refl
passes-waiting (by_pass_again Second role at may less) First = refl
passes-waiting (by_pass_again Second role at may less) Second = refl
passes-waiting (by_pass First role at may most) First = refl
passes-waiting (by_pass First role at may most) Second = refl
passes-waiting (by_pass Second role at may most) First = refl
passes-waiting (by_pass Second role at may most) Second = refl
passes-waiting (by_end First role sent away may) First = refl
passes-waiting (by_end First role sent away may) Second = refl
passes-waiting (by_end Second role sent away may) First = refl
passes-waiting (by_end Second role sent away may) Second = refl
passes-waiting (by_apply_behind First message applied role sent era is put at) First = refl
passes-waiting (by_apply_behind First message applied role sent era is put at) Second = refl
passes-waiting (by_apply_behind Second message applied role sent era is put at) First = refl
passes-waiting (by_apply_behind Second message applied role sent era is put at) Second = refl
passes-waiting (by_apply First message applied role sent era is put at) First = refl
passes-waiting (by_apply First message applied role sent era is put at) Second = refl
passes-waiting (by_apply Second message applied role sent era is put at) First = refl
passes-waiting (by_apply Second message applied role sent era is put at) Second = refl
passes-waiting (by_acknowledge First taken role sent among era is) First = refl
passes-waiting (by_acknowledge First taken role sent among era is) Second = refl
passes-waiting (by_acknowledge Second taken role sent among era is) First = refl
passes-waiting (by_acknowledge Second taken role sent among era is) Second = refl

-- what holds of both copies after one changed
pub each-copy : (P : Copy → Type 0) (k : Which) (copy : Copy) (pair : Pair) → P copy
    → ((other : Which) → P (copy_of other pair)) → (which : Which) → P (copy_of which (with_copy k copy pair))
each-copy P First copy pair new old First = new
each-copy P First copy pair new old Second = old Second
each-copy P Second copy pair new old First = old First
each-copy P Second copy pair new old Second = new

pub same-sectors : (k : Which) (copy : Copy) (pair : Pair) → (with_copy k copy pair).sectors ≡ pair.sectors
same-sectors First copy pair = refl
same-sectors Second copy pair = refl

-- Stops and marks

pub marked-sectors : (k : Option Which) (pair : Pair) → (pair_after_down k pair).sectors ≡ pair.sectors
marked-sectors None pair = refl
marked-sectors (Some First) pair = refl
marked-sectors (Some Second) pair = refl

pub marked-held : (k : Option Which) (pair : Pair)
    → length (pair_after_down k pair).first.held + length (pair_after_down k pair).second.held
    ≤ length pair.first.held + length pair.second.held
marked-held None pair = omega arith
marked-held (Some First) pair = omega arith
marked-held (Some Second) pair = omega arith

-- what holds of all requests that wait at the copies of a process
abbrev pub AllWait : (Request → Type 0) → Pair → Type 0
AllWait P pair = (k : Which) (request : Request) → IsAmong request (copy_of k pair).waiting → P request

pub marked-waiting : (P : Request → Type 0) (k : Option Which) (pair : Pair) → AllWait P pair
    → AllWait P (pair_after_down k pair)
marked-waiting P None pair all which = all which
marked-waiting P (Some First) pair all First = still-all P pair.first.core.receive pair.first.waiting (all First)
marked-waiting P (Some First) pair all Second = all Second
marked-waiting P (Some Second) pair all First = all First
marked-waiting P (Some Second) pair all Second = still-all P pair.second.core.receive pair.second.waiting (all Second)

pub stopped-waiting : (P : Request → Type 0) (processor : ℕ) (pair : Pair) → AllWait P pair
    → AllWait P (stopped_pair processor pair)
stopped-waiting P processor pair all First = all First
stopped-waiting P processor pair all Second = all Second

-- Reloads

pub reloaded-sectors : (core : Core) (pair : Pair) (a b : Bool) → (reloaded_by core pair a b).sectors ≡ pair.sectors
reloaded-sectors core pair false false = refl
reloaded-sectors core pair true false = refl
reloaded-sectors core pair false true = refl
reloaded-sectors core pair true true = refl

pub reloaded-held : (core : Core) (pair : Pair) (a b : Bool)
    → length (reloaded_by core pair a b).first.held + length (reloaded_by core pair a b).second.held
    ≤ length pair.first.held + length pair.second.held
reloaded-held core pair false false = omega arith
reloaded-held core pair true false = omega arith
reloaded-held core pair false true = omega arith
reloaded-held core pair true true = omega arith

pub reloaded-waiting : (P : Request → Type 0) (core : Core) (pair : Pair) (a b : Bool) → AllWait P pair
    → AllWait P (reloaded_by core pair a b)
reloaded-waiting P core pair false false all which = all which
reloaded-waiting P core pair true false all First = λ request among. absurd among
reloaded-waiting P core pair true false all Second = all Second
reloaded-waiting P core pair false true all First = all First
reloaded-waiting P core pair false true all Second = λ request among. absurd among
reloaded-waiting P core pair true true all First = λ request among. absurd among
reloaded-waiting P core pair true true all Second = λ request among. absurd among

pub ended-waiting : (P : Request → Type 0) (node processor : ℕ) (pair : Pair) → AllWait P pair
    → AllWait P (renewals_ended node processor pair)
ended-waiting P node processor pair all First = all First
ended-waiting P node processor pair all Second = all Second
