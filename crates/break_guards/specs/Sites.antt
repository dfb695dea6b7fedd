-- Sites that the guards name: a disc, and a terminal that asks it; and machines on which it has asked.
use Rattle.std.specs.Prelude.{ℕ, pos, false, [], ◌∷◌, None, replicate, codes}
use Rattle.break_text.specs.unfailing_judge.specs.plain_semantics.specs.Machine.{Plain, PlainProcess}
use Rattle.break_text.specs.unfailing_judge.specs.plain_semantics.specs.declared.slot.Slot.{Slot}
use Rattle.break_text.specs.unfailing_judge.specs.plain_semantics.specs.declared.slot.Slot.TheVariants.{Answered}
use Rattle.break_text.specs.unfailing_judge.specs.plain_semantics.specs.declared.slot.Slot.TheVariants.{Waiting}
use Rattle.break_text.specs.unfailing_judge.specs.plain_semantics.specs.process_semantics.specs.Process.{start_of}
use Rattle.break_text.specs.unfailing_judge.specs.plain_semantics.specs.process_semantics.specs.State.{zeros}
use Rattle.tal_tree.specs.declared.act.Shown.{Shown}
use Rattle.tal_tree.specs.declared.act.Shown.TheVariants.{Write, Reply}
use Rattle.tal_tree.specs.declared.site.Kind.TheVariants as kind
use Rattle.tal_tree.specs.declared.site.Site.{Site}

abbrev pub site : Site
site = record {
  processors = 3;
  processes = record { name = codes "$DATA"; primary = 0; backup = 1; what = kind.Disc 16 false } ∷ [];
  terminals = record { name = codes "$T1"; target = 0; requests = [] } ∷ [];
}

-- a write of a sector that begins with this word
abbrev pub written : ℕ → Shown
written n = Write 0 0 (pos n ∷ replicate 7 (pos 0))

-- the reply to the first request
abbrev pub replied : ℕ → Shown
replied n = Reply 0 1 (pos n ∷ [])

-- the terminal has a request
abbrev pub asking : Site
asking = record site {
  terminals = record { name = codes "$T1"; target = 0; requests = (pos 7 ∷ []) ∷ [] } ∷ [];
}

-- the disc at its beginning, with this in the slot of the terminal
abbrev pub disc_with : Slot → PlainProcess
disc_with slot = record {
  state = start_of (kind.Disc 16 false);
  hand = None;
  slots = slot ∷ [];
  sectors = replicate 16 (zeros 8);
}

-- the request was entered
abbrev pub entered : Plain
entered = record { processes = disc_with (Waiting (pos 7 ∷ [])) ∷ []; entered = 1 ∷ [] }

-- the reply is there
abbrev pub answered : Plain
answered = record { processes = disc_with (Answered (pos 5 ∷ [])) ∷ []; entered = 1 ∷ [] }
