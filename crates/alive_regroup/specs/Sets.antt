-- Sets of processors.
use Rattle.std.specs.Prelude.{ℕ, Bool, false, replicate, slice_get, slice_set}
use Rattle.std.specs.Option.{unwrap_or}
use Rattle.gd_words.specs.declared.limits.TheConstants.{MOST_PROCESSORS}
use Rattle.alive_regroup.specs.declared.set.ProcessorSet.{ProcessorSet}

-- whether a processor is a member
abbrev pub has : ProcessorSet → ℕ → Bool
has set processor = unwrap_or (slice_get set.members processor) false

-- the set without members
abbrev pub nobody : ProcessorSet
nobody = record { members = replicate MOST_PROCESSORS false }

-- the set without a processor
abbrev pub without : ℕ → ProcessorSet → ProcessorSet
without processor set = record { members = slice_set set.members processor false }
