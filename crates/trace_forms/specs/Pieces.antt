-- The object of an event piece by piece.
use Rattle.std.specs.Prelude.{ℕ, List, ◌++◌, codes}
use Rattle.std.specs.Fmt.{decimal}
use Rattle.json_lines.specs.Strings.{string_text, strings_text}

abbrev pub object_head : ℕ → List ℕ → List ℕ
object_head number event = codes "{\"number\":" ++ decimal number ++ codes ",\"event\":" ++ string_text event

abbrev pub object_pieces : ℕ → List ℕ → List (List ℕ) → List ℕ
object_pieces number event findings =
    object_head number event ++ codes ",\"findings\":" ++ strings_text findings ++ codes "}"
