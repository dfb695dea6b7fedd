-- Disc processes. For each request a disc goes through the points Take, AtCheckpoint, Device and Answer in turn.
use Rattle.std.specs.Prelude.{ℕ, ◌+◌, ◌-◌, ◌==◌, ℤ, pos, negsuc, ◌&&◌, if◌then◌else◌, nat_lt, nat_le, List, [], ◌∷◌}
use Rattle.std.specs.Prelude.{◌++◌, length, replicate, Option, Some, None}
use Rattle.std.specs.Option.{unwrap_or}
use Rattle.std.specs.Ordering.{int_eq}
use Rattle.tal_values.specs.gd_words.specs.declared.device.DeviceCall.{DeviceCall}
use Rattle.tal_values.specs.gd_words.specs.declared.device.DeviceCall.TheVariants.{Nothing, Read, Write}
use Rattle.process_semantics.specs.declared.disc.DiscState.{DiscState}
use Rattle.process_semantics.specs.declared.point.Point.TheVariants.{Take, Answer, AtCheckpoint, Device}
use Rattle.tal_values.specs.gd_words.specs.declared.limits.TheConstants.{SECTOR_WORDS}

-- a disc at its beginning
abbrev pub disc_start : DiscState
disc_start = record { label = Take; request = None; reply = None; last_write = 0 }

-- the sector that a word names on a disc of so many
abbrev pub sector_of : ℕ → ℤ → Option ℕ
sector_of sectors (pos n) = if nat_lt n sectors then Some n else None
sector_of sectors (negsuc n) = None

-- words that fill a sector, zeros after them
abbrev pub filled : List ℤ → List ℤ
filled words = words ++ replicate (SECTOR_WORDS - length words) (pos 0)

-- `1 s` reads the sector s, `2 s w1 .. wk` with one to eight words writes it; anything else does nothing
abbrev pub call_at : ℕ → ℤ → List ℤ → Option ℕ → DeviceCall
call_at number kind words None = Nothing
call_at number kind words (Some sector) =
    if int_eq kind (pos 1) && (length words == 0) then Read sector
    else if int_eq kind (pos 2) && nat_le 1 (length words)
    && nat_le (length words) SECTOR_WORDS then Write sector (filled words) number
    else Nothing

-- what the words of a request ask of the device, under the number that a write would have
abbrev pub call_of : ℕ → ℕ → List ℤ → DeviceCall
call_of sectors number [] = Nothing
call_of sectors number (kind ∷ []) = Nothing
call_of sectors number (kind ∷ sector ∷ words) = call_at number kind words (sector_of sectors sector)

-- what a disc does to its device for the request in hand. A write's number is the last one plus 1
abbrev pub disc_call : ℕ → DiscState → DeviceCall
disc_call sectors s = call_of sectors (s.last_write + 1) (unwrap_or s.request [])

-- the reply to a request, with the words that stand on the sector that it reads
abbrev pub reply_of : DeviceCall → List ℤ → List ℤ
reply_of Nothing found = pos 1 ∷ []
reply_of (Read sector) found = pos 0 ∷ found
reply_of (Write sector words number) found = pos 0 ∷ []

-- the number of the last write after an act on the device
abbrev pub last_write_after : ℕ → DeviceCall → ℕ
last_write_after last (Write sector words number) = number
last_write_after last _ = last

-- The steps of a disc

-- the step at Take: the request is in hand
abbrev pub disc_took : DiscState → List ℤ → DiscState
disc_took s words = record s { label = AtCheckpoint; request = Some words }

-- the step at AtCheckpoint
abbrev pub disc_checkpointed : DiscState → DiscState
disc_checkpointed s = record s { label = Device }

-- the step at Device: the reply is ready, and a write has used its number
abbrev pub disc_done : ℕ → DiscState → List ℤ → DiscState
disc_done sectors s found = record s {
  label = Answer;
  reply = Some (reply_of (disc_call sectors s) found);
  last_write = last_write_after s.last_write (disc_call sectors s);
}

-- the words that are answered at Answer
abbrev pub disc_answer : DiscState → List ℤ
disc_answer s = unwrap_or s.reply []

-- the step at Answer: nothing is in hand
abbrev pub disc_answered : DiscState → DiscState
disc_answered s = record s { label = Take; request = None; reply = None }
