-- The line of an event in a form: as text, or as an object of JSON that says the same. Our own; what a text of JSON is
-- of is said by the crate `json`, after RFC 8259.
use Rattle.std.specs.Prelude.{ℕ, List, [], ◌∷◌, ◌++◌, codes, map}
use Rattle.std.specs.Fmt.{decimal}
use Rattle.json.specs.Json as json
use Rattle.json.specs.Json.{Json, array, member, no_members, object, string}
use Rattle.json.specs.Print.{print}
use Rattle.json.specs.Tree.{json_tokens}
use Rattle.json_lines.specs.Strings.{items_of, plain_text}
use Rattle.schedule.specs.declared.event.Event.{Event}
use Rattle.tal_tree.specs.declared.act.Shown.{Shown}
use Rattle.tal_tree.specs.declared.site.Site.{Site}
use Rattle.trace_forms.specs.declared.form.Form.{Form}
use Rattle.trace_forms.specs.declared.form.Form.TheVariants as form
use Rattle.trace_lines.specs.EventLine.{event_line, event_text}
use Rattle.trace_lines.specs.FindingWords.{found_text}
use Rattle.trace_lines.specs.ShownWords.{showing_text}
use Rattle.trace_lines.specs.declared.finding.Finding.{Finding}
use Rattle.trace_lines.specs.declared.places.Places.{Places}

-- an object with the event's number, the event, and what it did and showed
abbrev pub event_value : ℕ → List ℕ → List (List ℕ) → Json
event_value number event findings =
    object (member (codes "number") (json.number (decimal number))
    (member (codes "event") (string (plain_text event))
    (member (codes "findings") (array (items_of findings)) no_members)))

-- the text of a value, with no space in it
abbrev pub value_text : Json → List ℕ
value_text value = print (json_tokens value)

-- what an event did and what it showed, in the words that stand behind bars in its line
abbrev pub texts_told : Site → Places → List Finding → List Shown → List (List ℕ)
texts_told site places findings shown = map (found_text site places) findings ++ map (showing_text site) shown

abbrev pub json_line : Site → Places → ℕ → Event → List Finding → List Shown → List ℕ
json_line site places number event findings shown =
    value_text (event_value number (event_text site event) (texts_told site places findings shown)) ++ 10 ∷ []

abbrev pub line_in : Form → Site → Places → ℕ → Event → List Finding → List Shown → List ℕ
line_in form.Text site places number event findings shown = event_line site places number event findings shown
line_in form.Json site places number event findings shown = json_line site places number event findings shown
