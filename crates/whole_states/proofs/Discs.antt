-- The steps of a disc come to whole states.
use Rattle.std.proofs.Common.{◌≡◌, ◌≤◌, ◌<◌, ℕ, ◌+◌, ◌==◌, ℤ, pos, ◌&&◌, nat_le, Bool, true, false, if◌then◌else◌, List}
use Rattle.std.proofs.Common.{[], ◌∷◌, length, Option, Some, None, refl, subst, sym, arith}
use Rattle.std.specs.Option.{unwrap_or}
use Rattle.std.specs.Ordering.{int_eq}
use Rattle.process_semantics.specs.gd_words.specs.Ranges.{HasNext}
use Rattle.process_semantics.specs.gd_words.specs.declared.device.DeviceCall.{DeviceCall}
use Rattle.process_semantics.specs.gd_words.specs.declared.device.DeviceCall.TheVariants.{Nothing, Read, Write}
use Rattle.process_semantics.specs.Disc.{disc_start, disc_took, disc_checkpointed, disc_done, disc_answered, disc_call}
use Rattle.process_semantics.specs.Disc.{call_of, call_at, sector_of, filled, reply_of, last_write_after}
use Rattle.process_semantics.specs.declared.disc.DiscState.{DiscState}
use Rattle.process_semantics.specs.declared.point.Point.{Point}
use Rattle.process_semantics.specs.declared.point.Point.TheVariants.{Take, Answer, AtCheckpoint, Device}
use Rattle.whole_states.specs.Processes.{IsDiscAt, IsWholeDisc}

-- what a whole disc has in hand at a point
pub disc-at : {s : DiscState} (p : Point) → s.label ≡ p → IsWholeDisc s → IsDiscAt p s.request s.reply
disc-at {s} p at is = subst (λ (label : Point). IsDiscAt label s.request s.reply) at is.fits

pub start-disc : IsWholeDisc disc_start
start-disc = record { fits = tt; number = omega arith }

-- at Take there is neither request nor reply
pub take-none : (request reply : Option (List ℤ)) → IsDiscAt Take request reply → (request ≡ None) × (reply ≡ None)
take-none None None fits = (refl, refl)
take-none None (Some reply) fits = absurd fits
take-none (Some request) reply fits = absurd fits

pub took-disc : {s : DiscState} (words : List ℤ) → s.label ≡ Take → length words ≤ 16 → IsWholeDisc s
    → IsWholeDisc (disc_took s words)
took-disc {s} words at few is = record {
  fits = subst (IsDiscAt AtCheckpoint (Some words)) (sym (take-none s.request s.reply (disc-at Take at is)).1) few;
  number = is.number;
}

checkpoint-device : (request reply : Option (List ℤ)) → IsDiscAt AtCheckpoint request reply → IsDiscAt Device request
    reply
checkpoint-device None reply fits = absurd fits
checkpoint-device (Some request) None fits = fits
checkpoint-device (Some request) (Some reply) fits = absurd fits

pub checkpointed-disc : {s : DiscState} → s.label ≡ AtCheckpoint → IsWholeDisc s → IsWholeDisc (disc_checkpointed s)
checkpointed-disc {s} at is = record {
  fits = checkpoint-device s.request s.reply (disc-at AtCheckpoint at is);
  number
      = is.number;
}

pub answered-disc : {s : DiscState} → IsWholeDisc s → IsWholeDisc (disc_answered s)
answered-disc is = record { fits = tt; number = is.number }

-- The step at Device

device-answer : (request reply : Option (List ℤ)) (words : List ℤ) → IsDiscAt Device request reply → 1 ≤ length words
    → length words ≤ 16
    → IsDiscAt Answer request (Some words)
device-answer None reply words fits some few = absurd fits
device-answer (Some request) None words fits some few = (fits, (some, few))
device-answer (Some request) (Some reply) words fits some few = absurd fits

reply-some : (call : DeviceCall) (found : List ℤ) → 1 ≤ length (reply_of call found)
reply-some Nothing found = omega arith
reply-some (Read sector) found = omega arith
reply-some (Write sector words number) found = omega arith

reply-few : (call : DeviceCall) (found : List ℤ) → length found ≤ 8 → length (reply_of call found) ≤ 16
reply-few Nothing found few = omega arith
reply-few (Read sector) found few = omega (arith, few)
reply-few (Write sector words number) found few = omega arith

-- a call leaves the number of the last write as it was, or makes it one more
abbrev AtMostNext : ℕ → DeviceCall → Type 0
AtMostNext last call = last_write_after last call ≤ last + 1

if-next : (last : ℕ) (b : Bool) (first second : DeviceCall) → AtMostNext last first → AtMostNext last second
    → AtMostNext last (if b then first else second)
if-next last true first second one other = one
if-next last false first second one other = other

call-next : (last sectors : ℕ) (words : List ℤ) → AtMostNext last (call_of sectors (last + 1) words)
call-next last sectors [] = omega arith
call-next last sectors (kind ∷ []) = omega arith
call-next last sectors (kind ∷ at ∷ words) = by (sector_of sectors at)
  where
    by : (sector : Option ℕ) → AtMostNext last (call_at (last + 1) kind words sector)
    by None = omega arith
    by (Some sector) = if-next last (int_eq kind (pos 1) && (length words == 0)) (Read sector)
        (if int_eq kind (pos 2) && nat_le 1 (length words)
        && nat_le (length words) 8 then Write sector (filled words) (last + 1) else Nothing) (omega arith)
        (if-next last (int_eq kind (pos 2) && nat_le 1 (length words) && nat_le (length words) 8)
        (Write sector (filled words) (last + 1)) Nothing
        (omega arith) (omega arith))

pub device-disc : {s : DiscState} (sectors : ℕ) (found : List ℤ) → s.label ≡ Device → length found ≤ 8
    → HasNext s.last_write → IsWholeDisc s
    → IsWholeDisc (disc_done sectors s found)
device-disc {s} sectors found at few low is = record {
  fits = let call = disc_call sectors s in
      device-answer s.request s.reply (reply_of call found) (disc-at Device at is) (reply-some call found)
      (reply-few call found few);
  number = let next = call-next s.last_write sectors (unwrap_or s.request []) in omega (arith, next, low);
}
