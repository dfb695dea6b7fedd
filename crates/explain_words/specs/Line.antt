-- The words that a command line of `explain` may have, as one simple command of clap. Our own rule.
use Rattle.std.specs.Prelude.{◌≡◌, true, List, [], Some, codes}
use Rattle.clap.specs.Words.{App, IsAmong, Rule, Text, fault_of, found_of, matches_of, new_app, new_rule, rows_of}
use Rattle.clap.specs.Words.{with_rule}
use Rattle.clap.specs.declared.builder.action.ArgAction.TheVariants.{Set, SetTrue}
use Rattle.clap.specs.declared.error.kind.ErrorKind.{ErrorKind}
use Rattle.explain_words.specs.declared.line.Parse.{Parse}
use Rattle.explain_words.specs.declared.line.Parse.TheVariants.{Words, Refused}

-- MODE, the first word, which must be there
abbrev pub mode_rule : Rule
mode_rule = record (new_rule (codes "mode")) { required = true; action = Some Set }

-- FILE, the second, which may be missing
abbrev pub file_rule : Rule
file_rule = record (new_rule (codes "file")) { action = Some Set }

-- a flag of this name with one value, for which `--help` has one name
abbrev pub valued_rule : Text → Rule
valued_rule name = record (new_rule name) { long = Some name; action = Some Set; value_names = 1 }

-- a flag of this name alone
abbrev pub flag_rule : Text → Rule
flag_rule name = record (new_rule name) { long = Some name; action = Some SetTrue }

-- a program that has a version, which `--version` asks for
abbrev pub versioned : App → App
versioned app = record app { top = record app.top { has_version = true } }

-- MODE, FILE, `--fail`, `--from` and `--to`, `--json` and `--alive`
abbrev pub the_line : App
the_line = with_rule (with_rule (with_rule (with_rule (with_rule (with_rule (with_rule
    (versioned (new_app (codes "explain"))) mode_rule) file_rule) (valued_rule (codes "fail")))
    (valued_rule (codes "from"))) (valued_rule (codes "to"))) (flag_rule (codes "json"))) (flag_rule (codes "alive"))

-- what clap makes of the words, the program's name first: it takes them, or refuses them for one of these kinds
abbrev pub IsParse : List Text → Parse → Type 0
IsParse words (Words matches) =
    (fault_of the_line words ≡ []) × (rows_of (found_of matches) ≡ matches_of the_line words)
IsParse words (Refused kind) = IsAmong kind (fault_of the_line words)

abbrev pub IsRefusedFor : ErrorKind → Parse → Type 0
IsRefusedFor kind (Words matches) = ⊥
IsRefusedFor kind (Refused other) = other ≡ kind
