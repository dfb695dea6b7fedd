-- Where the adder of the examples stands in a deck.
use Rattle.std.specs.Prelude.{pos, true, false, [], ◌∷◌, codes, replicate}
use Rattle.alive_regroup.specs.declared.set.ProcessorSet.{ProcessorSet}
use Rattle.tal_tree.specs.declared.site.Site.{Site}
use Rattle.trace_lines.specs.declared.places.Places.{Places}
use Rattle.world_semantics.specs.Examples.{adder_for}

abbrev pub adder_site : Site
adder_site = adder_for (pos 5 ∷ [])

-- the first number of its program stands on line 3 of a deck of four lines, and the second on line 4
abbrev pub places : Places
places = record {
  lines = codes "processors 2" ∷ codes "pair $ADD 0 1" ∷ codes "  CALL CHECKMONITOR;" ∷ codes "  WHILE 1 DO" ∷ [];
  programs = (3 ∷ 4 ∷ []) ∷ [];
}

-- processor 2 alone
abbrev pub second_silent : ProcessorSet
second_silent = record { members = false ∷ false ∷ true ∷ replicate 13 false }
