-- What is told of a deck where its chart is asked for. Our own.
use Rattle.std.specs.Prelude.{◌≡◌, ◌⊎◌, ℕ, true, false, List, length, Option, Result, Ok, Err}
use Rattle.chart_drawing.specs.Chart.{drawing_of}
use Rattle.chart_drawing.specs.declared.layout.Layout.{Layout}
use Rattle.charted_runs.specs.Charts.{Charts}
use Rattle.charted_runs.specs.declared.charted.ChartFault.{ChartFault}
use Rattle.charted_runs.specs.declared.charted.ChartFault.TheVariants as fault
use Rattle.charted_runs.specs.declared.charted.Charted.{Charted}
use Rattle.explain_why.specs.deck_reader.specs.declared.deck.Deck.{Deck}
use Rattle.explain_chart.specs.declared.scope.Scope.{Scope}
use Rattle.explain_why.specs.Judged.{IsJudgedDeck}
use Rattle.explain_why.specs.declared.judged.JudgedDeck.{JudgedDeck}
use Rattle.gd_words.specs.declared.memory.NoMemory.{NoMemory}
use Rattle.player.specs.declared.stop.ProcessorStop.{ProcessorStop}
use Rattle.schedule.specs.declared.line.Line.{Line}
use Rattle.svg_text.specs.Sheets.{drawing_text}
use Rattle.tal_tree.specs.declared.site.Site.{Site}
use Rattle.trace_lines.specs.declared.places.Places.{Places}
use Rattle.traced_decks.specs.PlacesOf.{places_of}
use Rattle.traced_decks.specs.verdicts.specs.Refused.{AreAccepted}

abbrev pub layout_of : Site → Scope → Layout
layout_of site scope = record {
  processors = site.processors;
  processes = length site.processes;
  from = scope.span.from;
  alive = scope.alive;
}

-- the text is that of the chart, whose events are those of a run of the schedule; or there is none, for a reason
abbrev pub ChartsSite : Site → Places → List Line → Option ProcessorStop → Scope → Result (List ℕ) ChartFault → Type 0
ChartsSite site places lines stop scope (Ok text) =
    (charted : Charted) × Charts site places lines stop (layout_of site scope) scope.span.to (Ok charted)
    × (text ≡ drawing_text (drawing_of site charted.chart))
ChartsSite site places lines stop scope (Err why) =
    Charts site places lines stop (layout_of site scope) scope.span.to (Err why)

abbrev pub chart_told : Result (List ℕ) NoMemory → Result (List ℕ) ChartFault
chart_told (Ok text) = Ok text
chart_told (Err memory) = Err (fault.NoMemory memory)

abbrev pub told : Result (List ℕ) ChartFault → Result JudgedDeck ChartFault
told (Ok text) = Ok (record { refused = false; told = text })
told (Err why) = Err why

-- all programs are accepted, and the chart of the deck is told; or it has no room for the events; or memory ran out
abbrev pub IsOfChart : List ℕ → Deck → Option ProcessorStop → Scope → Result JudgedDeck ChartFault → Type 0
IsOfChart bytes deck stop scope (Ok judged) =
    (judged.refused ≡ false) × AreAccepted deck.site.processes
    × ChartsSite deck.site (places_of bytes deck.site) deck.lines stop scope (Ok judged.told)
IsOfChart bytes deck stop scope (Err fault.TooLong) =
    AreAccepted deck.site.processes
    × ChartsSite deck.site (places_of bytes deck.site) deck.lines stop scope (Err fault.TooLong)
IsOfChart bytes deck stop scope (Err (fault.NoMemory memory)) = Unit {0}

-- a program is refused, and that is told; or the chart is
abbrev pub IsChartDeck : List ℕ → Deck → Option ProcessorStop → Scope → Result JudgedDeck ChartFault → Type 0
IsChartDeck bytes deck stop scope (Ok judged) =
    ((judged.refused ≡ true) × IsJudgedDeck bytes deck.site.processes judged)
    ⊎ IsOfChart bytes deck stop scope (Ok judged)
IsChartDeck bytes deck stop scope (Err why) = IsOfChart bytes deck stop scope (Err why)
