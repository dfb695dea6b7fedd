-- Where the statements of a site's programs stand in its deck: line 1 of a program is the line of the deck that follows
-- the line of its pair.
use Rattle.std.specs.Prelude.{ℕ, ◌+◌, List, [], map}
use Rattle.deck_lines.specs.Lines as decks
use Rattle.finding_text.specs.DeckPlace.{pair_line}
use Rattle.statement_lines.specs.Lines as statements
use Rattle.tal_tree.specs.declared.site.Kind.{Kind}
use Rattle.tal_tree.specs.declared.site.Kind.TheVariants as kind
use Rattle.tal_tree.specs.declared.site.ProcessSpec.{ProcessSpec}
use Rattle.tal_tree.specs.declared.site.Site.{Site}
use Rattle.trace_lines.specs.declared.places.Places.{Places}

abbrev pub places_behind : ℕ → Kind → List ℕ
places_behind start (kind.Disc sectors mirrored) = []
places_behind start (kind.Pair program) = map (λ line. start + line) (statements.lines_of program)

-- the lines of the deck for the numbers of a process's program, from number 1 on
abbrev pub program_places : List ℕ → ProcessSpec → List ℕ
program_places bytes spec = places_behind (pair_line bytes spec.name) spec.what

abbrev pub places_of : List ℕ → Site → Places
places_of bytes site =
    record { lines = decks.lines_of bytes; programs = map (program_places bytes) site.processes }
