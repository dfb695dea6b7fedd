-- What a site's chart is told of its deck.
use Rattle.std.proofs.Common.{◌≡◌, ◌∙◌, ◌++◌, ℕ, List, [], Option, Result, Ok, Err, ap, inr, refl}
use Rattle.charted_runs.specs.Charts.{Charts}
use Rattle.charted_runs.specs.declared.charted.ChartFault.{ChartFault}
use Rattle.charted_runs.specs.declared.charted.ChartFault.TheVariants as fault
use Rattle.charted_runs.specs.declared.charted.Charted.{Charted}
use Rattle.chart_drawing.specs.Chart.{drawing_of}
use Rattle.explain_why.specs.deck_reader.specs.declared.deck.Deck.{Deck}
use Rattle.explain_chart.specs.DeckCharts.{ChartsSite, IsChartDeck, IsOfChart, chart_told, layout_of, told}
use Rattle.explain_chart.specs.declared.scope.Scope.{Scope}
use Rattle.explain_why.specs.declared.judged.JudgedDeck.{JudgedDeck}
use Rattle.gd_words.specs.declared.memory.NoMemory.{NoMemory}
use Rattle.player.specs.declared.stop.ProcessorStop.{ProcessorStop}
use Rattle.schedule.specs.declared.line.Line.{Line}
use Rattle.std.specs.Prelude.{IfOk}
use Rattle.svg_text.specs.Sheets.{drawing_text}
use Rattle.tal_tree.specs.declared.site.Site.{Site}
use Rattle.trace_lines.specs.declared.places.Places.{Places}
use Rattle.traced_decks.specs.PlacesOf.{places_of}
use Rattle.traced_decks.specs.verdicts.specs.Refused.{AreAccepted}

pub told_of_deck : (bytes : List ℕ) (deck : Deck) (stop : Option ProcessorStop) (scope : Scope)
    (text : Result (List ℕ) ChartFault) → AreAccepted deck.site.processes
    → ChartsSite deck.site (places_of bytes deck.site) deck.lines stop scope text
    → IsOfChart bytes deck stop scope (told text)
told_of_deck bytes deck stop scope (Ok text) accepted charts = (refl, accepted, charts)
told_of_deck bytes deck stop scope (Err fault.TooLong) accepted charts = (accepted, charts)
told_of_deck bytes deck stop scope (Err (fault.NoMemory memory)) accepted charts = tt

pub whole_deck : (bytes : List ℕ) (deck : Deck) (stop : Option ProcessorStop) (scope : Scope)
    (result : Result JudgedDeck ChartFault) → IsOfChart bytes deck stop scope result
    → IsChartDeck bytes deck stop scope result
whole_deck bytes deck stop scope (Ok judged) is = inr is
whole_deck bytes deck stop scope (Err fault.TooLong) is = is
whole_deck bytes deck stop scope (Err (fault.NoMemory memory)) is = is

pub text_of_site : (site : Site) (places : Places) (lines : List Line) (stop : Option ProcessorStop) (scope : Scope)
    (charted : Charted) (text : Result (List ℕ) NoMemory)
    → Charts site places lines stop (layout_of site scope) scope.span.to (Ok charted)
    → IfOk text (λ one. one ≡ drawing_text (drawing_of site charted.chart))
    → ChartsSite site places lines stop scope (chart_told text)
text_of_site site places lines stop scope charted (Ok text) charts is = (charted, charts, is)
text_of_site site places lines stop scope charted (Err memory) charts is = tt

-- what is written behind nothing is the whole text
pub written_alone : {A : Type 0} (write : A → List ℕ) (text before : List ℕ) (one wanted : A) → before ≡ []
    → text ≡ before ++ write one → one ≡ wanted → text ≡ write wanted
written_alone write text before one wanted nothing is same =
    is ∙ ap (λ (first : List ℕ). first ++ write one) nothing ∙ ap write same
