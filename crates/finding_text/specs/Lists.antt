-- What CHECKPOINTs name, and what they lack or don't need by an advice.
use Rattle.std.specs.Prelude.{ℕ, if◌then◌else◌, List, [], ◌∷◌, ◌++◌, map}
use Rattle.gd_words.specs.Members.{is_among}
use Rattle.pair_findings.specs.advice.specs.declared.answer.Advised.{Advised}
use Rattle.pair_findings.specs.advice.specs.Answer.{files_among, items_among}
use Rattle.pair_findings.specs.statement_dues.specs.declared.checkpoints.NamedCheckpoint.{NamedCheckpoint}
use Rattle.finding_text.specs.declared.lists.Listed.{Listed}
use Rattle.finding_text.specs.declared.lists.Listed.TheVariants as listed

abbrev pub items_of : List ℕ → List Listed
items_of items = map listed.Item items

abbrev pub files_of : List ℕ → List Listed
files_of files = map listed.File files

-- those that aren't among others
abbrev pub others_of_items : List ℕ → List ℕ → List Listed
others_of_items others [] = []
others_of_items others (item ∷ items) =
    if is_among item others then others_of_items others items else listed.Item item ∷ others_of_items others items

abbrev pub others_of_files : List ℕ → List ℕ → List Listed
others_of_files others [] = []
others_of_files others (file ∷ files) =
    if is_among file others then others_of_files others files else listed.File file ∷ others_of_files others files

-- all that a CHECKPOINT names
abbrev pub all_listed : NamedCheckpoint → List Listed
all_listed named = items_of named.items ++ files_of named.files

-- what it has to name by an advice, and doesn't
abbrev pub lacking : NamedCheckpoint → List Advised → List Listed
lacking named advised =
    others_of_items named.items (items_among advised named.statement)
    ++ others_of_files named.files (files_among advised named.statement)

-- what it names, and by an advice doesn't have to
abbrev pub needless : NamedCheckpoint → List Advised → List Listed
needless named advised =
    others_of_items (items_among advised named.statement) named.items
    ++ others_of_files (files_among advised named.statement) named.files
