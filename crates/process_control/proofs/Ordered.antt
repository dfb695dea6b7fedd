-- The states of a copy stay in order, and what follows of its files, of what is listed and of what is in hand.
use Rattle.std.proofs.Common.{◌≡◌, ◌<◌, ℕ, ℤ, Bool, true, false, List, [], ◌∷◌, Option, Some, None, refl, subst, rules}
use Rattle.std.proofs.Common.{is_some}
use Rattle.std.proofs.lemmas.Option.{option_and_then_some, same_Some}
use Rattle.process_semantics.specs.declared.disc.DiscState.{DiscState}
use Rattle.process_semantics.specs.declared.point.Point.{Point}
use Rattle.process_semantics.specs.declared.point.Point.TheVariants as point
use Rattle.process_semantics.specs.Image.{disc_with, listed_items, listed_files, state_from_words, restored_program}
use Rattle.process_semantics.specs.Image.{restored_disc}
use Rattle.process_semantics.specs.Process as process
use Rattle.process_semantics.specs.Process.{ProcessState, Runs, Serves}
use Rattle.process_semantics.specs.Words.{with_count_in, long_in, whole}
use Rattle.whole_states.specs.Listing.{MayList, files_of}
use Rattle.whole_states.specs.Processes.{IsDiscAt, IsWholeProcess}
use Rattle.whole_states.proofs.Calls.{took-awake, asked-whole, got-awake, answered-awake, checkpointed-awake}
use Rattle.whole_states.proofs.Awake.{awake-whole}
use Rattle.whole_states.proofs.Named.{asked-there}
use Rattle.whole_states.proofs.Processes.{stays-whole, inner-process, listed-there}
use Rattle.checkpoint_image.specs.process_images.proofs.Fronts.{mapped}
use Rattle.checkpoint_image.specs.process_images.proofs.Programs.{program-stood}
use Rattle.process_control.specs.Consistent.{HoldsAt, IsInOrder}

whole-holds : (at : Point) (request reply : Option (List ℤ)) → IsDiscAt at request reply → HoldsAt at request
whole-holds at request reply is = search rules

pub whole-order : (s : ProcessState) → IsWholeProcess s → IsInOrder s
whole-order (Runs program s) is = is
whole-order (Serves sectors s) is = whole-holds s.label s.request s.reply is.fits

holds-at : (s : DiscState) (p : Point) → s.label ≡ p → HoldsAt s.label s.request → HoldsAt p s.request
holds-at s p at is = subst (λ (q : Point). HoldsAt q s.request) at is

pub inner-order : (s : ProcessState) → IsInOrder s → IsInOrder (process.after_inner s)
inner-order (Runs program s) is = stays-whole (process.after_inner (Runs program s)) (inner-process (Runs program s) is)
inner-order (Serves sectors s) is = is

pub took-order : (s : ProcessState) (words : List ℤ) → process.point s ≡ point.Take → IsInOrder s
    → IsInOrder (process.after_took s words)
took-order (Runs program s) words at is = (is.0, awake-whole (took-awake program s words at is.1))
took-order (Serves sectors s) words at is = tt

pub asked-order : (s : ProcessState) → process.point s ≡ point.Ask → IsInOrder s → IsInOrder (process.after_asked s)
asked-order (Runs program s) at is = (is.0, asked-whole program s at is.1)
asked-order (Serves sectors s) at is = is

pub got-order : (s : ProcessState) (words : List ℤ) → process.point s ≡ point.Await → IsInOrder s
    → IsInOrder (process.after_got s words)
got-order (Runs program s) words at is = (is.0, awake-whole (got-awake program s words at is.1))
got-order (Serves sectors s) words at is = is

pub answered-order : (s : ProcessState) → process.point s ≡ point.Answer → IsInOrder s
    → IsInOrder (process.after_answered s)
answered-order (Runs program s) at is = (is.0, awake-whole (answered-awake program s at is.1))
answered-order (Serves sectors s) at is = tt

checkpoint-device : (request : Option (List ℤ)) → HoldsAt point.AtCheckpoint request → HoldsAt point.Device request
checkpoint-device None is = is
checkpoint-device (Some request) is = is

device-answer : (request : Option (List ℤ)) → HoldsAt point.Device request → HoldsAt point.Answer request
device-answer None is = is
device-answer (Some request) is = is

pub checkpointed-order : (s : ProcessState) → process.point s ≡ point.AtCheckpoint → IsInOrder s
    → IsInOrder (process.after_checkpoint s)
checkpointed-order (Runs program s) at is = (is.0, awake-whole (checkpointed-awake program s at is.1))
checkpointed-order (Serves sectors s) at is = checkpoint-device s.request (holds-at s point.AtCheckpoint at is)

pub device-order : (s : ProcessState) (found : List ℤ) → process.point s ≡ point.Device → IsInOrder s
    → IsInOrder (process.after_device s found)
device-order (Runs program s) found at is = is
device-order (Serves sectors s) found at is = device-answer s.request (holds-at s point.Device at is)

-- Restoring

disc-with-order : (hand : Bool) (request reply : List ℤ) (number : ℕ) (t : DiscState)
    → disc_with hand request number reply ≡ Some t → HoldsAt t.label t.request
disc-with-order false [] [] number t is = subst (λ (d : DiscState). HoldsAt d.label d.request) (same_Some _ _ is) tt
disc-with-order false [] (word ∷ reply) number t is = absurd (cc)
disc-with-order false (word ∷ request) reply number t is = absurd (cc)
disc-with-order true request [] number t is = subst (λ (d : DiscState). HoldsAt d.label d.request) (same_Some _ _ is) tt
disc-with-order true request (word ∷ reply) number t is =
    subst (λ (d : DiscState). HoldsAt d.label d.request) (same_Some _ _ is) tt

disc-order : (hand : Bool) (words : List ℤ) (t : DiscState) → restored_disc hand words ≡ Some t
    → HoldsAt t.label t.request
disc-order hand words t is =
    option_and_then_some _ (with_count_in words) t is (λ request first next.
    option_and_then_some _ (long_in request.1) t next (λ number second later.
    option_and_then_some _ (whole (with_count_in number.1)) t later
    (λ reply third last. disc-with-order hand request.0 reply number.0 t last)))

pub restored-order : (s t : ProcessState) (hand : Bool) (words : List ℤ) → IsInOrder s
    → state_from_words s hand words ≡ Some t
    → IsInOrder t
restored-order (Runs program s) t hand words is there =
    let read = mapped (Runs program) (restored_program program s hand words) t there in
    subst IsInOrder read.2 (is.0, (program-stood program s read.0 hand words is.1.globals read.1).is)
restored-order (Serves sectors s) t hand words is there =
    let read = mapped (Serves sectors) (restored_disc hand words) t there in
    subst IsInOrder read.2 (disc-order hand words read.0 read.1)

pub restored-hand : (s t : ProcessState) (hand : Bool) (words : List ℤ) → state_from_words s hand words ≡ Some t
    → process.in_hand t ≡ hand
restored-hand s t hand words there = search rules

pub restored-files : (s t : ProcessState) (hand : Bool) (words : List ℤ) → state_from_words s hand words ≡ Some t
    → files_of s ≡ files_of t
restored-files s t hand words there = search rules

-- What follows

pub listed-order : (s : ProcessState) → IsInOrder s → MayList s (listed_items s) (listed_files s)
listed-order (Runs program s) is = listed-there (Runs program s) is
listed-order (Serves sectors s) is = (refl, refl)

pub asked-order-there : (s : ProcessState) → IsInOrder s → process.point s ≡ point.Ask
    → process.asked_file s < files_of s
asked-order-there (Runs program s) is at = asked-there program s is.0 at is.1
asked-order-there (Serves sectors s) is at = absurd (holds-at s point.Ask at is)

answer-request : (request : Option (List ℤ)) → HoldsAt point.Answer request → is_some request ≡ true
answer-request None is = absurd is
answer-request (Some request) is = refl

pub answer-hand : (s : ProcessState) → IsInOrder s → process.point s ≡ point.Answer → process.in_hand s ≡ true
answer-hand (Runs program s) is at = search rules
answer-hand (Serves sectors s) is at = answer-request s.request (holds-at s point.Answer at is)
