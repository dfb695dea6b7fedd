-- A disc that serves one request of a terminal.
use Rattle.std.specs.Prelude.{ℤ, pos, false, List, [], ◌∷◌, replicate, None}
use Rattle.gd_words.specs.declared.device.DeviceCall.TheVariants.{Write}
use Rattle.tal_tree.specs.declared.site.Kind.TheVariants as kind
use Rattle.tal_tree.specs.declared.site.ProcessSpec.{ProcessSpec}
use Rattle.tal_tree.specs.declared.site.Site.{Site}
use Rattle.world_semantics.specs.process_semantics.specs.Disc.{disc_start}
use Rattle.world_semantics.specs.process_semantics.specs.Process.{Serves}
use Rattle.world_semantics.specs.Core.{Core, Deed, Checkpointed, Took, Answered, Acted}

-- a disc of two sectors
abbrev pub disc : ProcessSpec
disc = record { name = 36 ∷ 68 ∷ []; primary = 0; backup = 1; what = kind.Disc 2 false }

-- a terminal asks it to write 5 to sector 1
abbrev pub disc_site : Site
disc_site = record {
  processors = 2;
  processes = disc ∷ [];
  terminals = record { name = 36 ∷ 84 ∷ []; target = 0; requests = (pos 2 ∷ pos 1 ∷ pos 5 ∷ []) ∷ [] } ∷ [];
}

-- a sector that begins with a word, zeros after it
abbrev pub sector_with : ℤ → List ℤ
sector_with word = word ∷ replicate 7 (pos 0)

-- what the disc does for the request
abbrev pub one_write : List Deed
one_write =
    Answered 0 (pos 0 ∷ []) ∷ Acted (Write 1 (sector_with (pos 5)) 1) (sector_with (pos 0)) ∷ Checkpointed
    ∷ Took 0 (pos 2 ∷ pos 1 ∷ pos 5 ∷ []) ∷ []

-- what it is then
abbrev pub after_one : Core
after_one = record {
  state = Serves 2 (record disc_start { last_write = 1 });
  next = [];
  receive = record { openers = record { taken = 1; kept = (pos 0 ∷ []) ∷ [] } ∷ []; in_hand = None };
}
