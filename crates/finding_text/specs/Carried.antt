-- What the CHECKPOINTs of an accepted program send, as text. Our own wording.
use Rattle.std.specs.Prelude.{ℕ, ◌+◌, List, [], ◌∷◌, ◌++◌, codes, flat_map}
use Rattle.pair_findings.specs.advice.specs.declared.answer.Advised.{Advised}
use Rattle.pair_findings.specs.statement_dues.specs.declared.checkpoints.NamedCheckpoint.{NamedCheckpoint}
use Rattle.tal_tree.specs.declared.program.Program.{Program}
use Rattle.pair_findings.specs.declared.finding.PairFinding.{PairFinding}
use Rattle.pair_findings.specs.declared.finding.Remedy.{Remedy}
use Rattle.pair_findings.specs.declared.finding.Remedy.TheVariants.{Lists, Unmendable, OutOfBounds}
use Rattle.finding_text.specs.DeckPlace.{source_text}
use Rattle.finding_text.specs.Lacking.{names_text}
use Rattle.finding_text.specs.Lists.{all_listed, needless}
use Rattle.finding_text.specs.Names.{listed_name}
use Rattle.finding_text.specs.Steps.{place_text}
use Rattle.finding_text.specs.declared.lists.Listed.{Listed}
use Rattle.finding_text.specs.declared.lists.Listed.TheVariants as listed

-- a global is sent with its words, and a file as a number
abbrev pub lead_of : Listed → List ℕ
lead_of (listed.Item item) = codes ", "
lead_of (listed.File file) = codes ", the number of the next request on "

abbrev pub one_sent : Program → Listed → List ℕ
one_sent program one = lead_of one ++ listed_name program one

abbrev pub sent_text : Program → List Listed → List ℕ
sent_text program all = flat_map (one_sent program) all ++ 10 ∷ []

abbrev pub unneeded_text : Program → List Listed → List ℕ
unneeded_text program needless = codes "         needn't name " ++ names_text program needless ++ 10 ∷ []

abbrev pub needless_text : Program → List Listed → List ℕ
needless_text program [] = []
needless_text program (one ∷ more) = unneeded_text program (one ∷ more)

abbrev pub place_line : List ℕ → ℕ → List ℕ
place_line bytes line = place_text line ++ source_text bytes line ++ 10 ∷ []

-- what a CHECKPOINT sends that names all these, and which of them it needn't
abbrev pub sends_text : Program → List Listed → List Listed → List ℕ
sends_text program all needless =
    codes "         sends the stack, the requests that were taken" ++ sent_text program all
    ++ needless_text program needless

-- what a CHECKPOINT sends, and what by the advice it needn't name
unfoldable pub carried_text : List ℕ → ℕ → Program → NamedCheckpoint → List Advised → List ℕ
carried_text bytes start program named advised =
    place_line bytes (start + named.line) ++ sends_text program (all_listed named) (needless named advised)

abbrev pub carries_text : List ℕ → ℕ → Program → List NamedCheckpoint → List Advised → List ℕ
carries_text bytes start program checkpoints advised =
    flat_map (λ named. carried_text bytes start program named advised) checkpoints

abbrev pub advised_of : Remedy → List Advised
advised_of (Lists advice) = advice.lists
advised_of (Unmendable reason path) = []
advised_of OutOfBounds = []

-- what the CHECKPOINTs of a program send that begins behind this line
abbrev pub accepted_text : List ℕ → ℕ → Program → PairFinding → List ℕ
accepted_text bytes start program finding =
    carries_text bytes start program finding.checkpoints (advised_of finding.remedy)
