-- What an event showed, in words. Our own wording.
use Rattle.std.specs.Prelude.{ℕ, ℤ, List, ◌++◌, codes, flat_map}
use Rattle.std.specs.Fmt.{signed_decimal}
use Rattle.tal_tree.specs.declared.act.Shown.{Shown}
use Rattle.tal_tree.specs.declared.act.Shown.TheVariants.{Write, Reply}
use Rattle.tal_tree.specs.declared.site.Site.{Site}
use Rattle.trace_lines.specs.Names.{numbered_text, process_name, terminal_name}

abbrev pub word_text : ℤ → List ℕ
word_text word = codes " " ++ signed_decimal word

abbrev pub words_text : List ℤ → List ℕ
words_text words = flat_map word_text words

-- who shows something, what it is with its number, and its words
abbrev pub seen_text : List ℕ → List ℕ → ℕ → List ℤ → List ℕ
seen_text name deed number words =
    name ++ numbered_text deed number (codes ":") ++ words_text words

abbrev pub showing_text : Site → Shown → List ℕ
showing_text site (Write process sector words) =
    seen_text (process_name site process) (codes " writes sector ") sector words
showing_text site (Reply terminal number words) =
    seen_text (terminal_name site terminal) (codes " prints reply ") number words

-- one thing that an event showed, behind a bar
abbrev pub shown_text : Site → Shown → List ℕ
shown_text site shown = codes " | " ++ showing_text site shown
