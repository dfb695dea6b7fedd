-- Which message words are of, by the first of them. Their layout is that of messages between nodes: the kind, then the
-- process and the opener's place, or the node, and then numbers of two words, the high half first.
use Rattle.std.specs.Prelude.{ℕ, zero, suc, ◌+◌, ◌*◌, ◌%◌, ℤ, List, slice_get, Option, Some, None}
use Rattle.std.specs.Option.{option_map}
use Rattle.alive_regroup.specs.declared.set.ProcessorSet.{ProcessorSet}
use Rattle.machine_views.specs.message_layout.specs.Reading.{bits_of}
use Rattle.packet_words.specs.Telling.{number_at}
use Rattle.plain_semantics.specs.Openers.{openers_of}
use Rattle.tal_tree.specs.declared.site.Site.{Site}
use Rattle.tal_tree.specs.declared.site.Who.{Who}
use Rattle.trace_lines.specs.declared.finding.MessageName.{MessageName}
use Rattle.trace_lines.specs.declared.finding.MessageName.TheVariants as name

-- a number of two words
abbrev pub long_at : ℕ → List ℤ → ℕ
long_at place words = number_at place words * 65536 + number_at (place + 1) words

-- the number of a process or a node
abbrev pub small_at : ℕ → List ℤ → ℕ
small_at place words = number_at place words % 256

-- who opens a process at the place that words name
abbrev pub asker_in : Site → List ℤ → Option Who
asker_in site words =
    option_map (λ one. one.who) (slice_get (openers_of site (small_at 1 words)) (number_at 2 words))

-- the processors that a report has
abbrev pub silent_in : List ℤ → ProcessorSet
silent_in words = record { members = bits_of 16 (number_at 2 words) }

-- a checkpoint, whole or as what changed
abbrev pub checkpoint_in : List ℤ → MessageName
checkpoint_in words = name.Checkpoint (small_at 1 words) (long_at 2 words) (long_at 4 words)

-- the message of a kind
abbrev pub name_of : Site → List ℤ → ℕ → Option MessageName
name_of site words (suc zero) = Some (name.Request (asker_in site words) (small_at 1 words) (long_at 3 words))
name_of site words (suc (suc zero)) = Some (name.Reply (asker_in site words) (small_at 1 words) (long_at 3 words))
name_of site words (suc (suc (suc zero))) = Some (checkpoint_in words)
name_of site words (suc (suc (suc (suc zero)))) =
    Some (name.Taken (small_at 1 words) (long_at 2 words) (long_at 4 words))
name_of site words (suc (suc (suc (suc (suc zero))))) = Some (name.Report (small_at 1 words) (silent_in words))
name_of site words (suc (suc (suc (suc (suc (suc zero)))))) = Some (name.Down (small_at 1 words))
name_of site words (suc (suc (suc (suc (suc (suc (suc zero))))))) = Some (checkpoint_in words)
name_of site words _ = None

-- the message that words are of, or the first of its words
abbrev pub message_named : Site → List ℤ → Option MessageName
message_named site words = name_of site words (number_at 0 words)
