-- What became of a checkpoint, or of the message that one was taken, at the copy to which it came. Our own wording.
use Rattle.std.specs.Prelude.{ℕ, List, [], ◌++◌, codes}
use Rattle.trace_lines.specs.Names.{numbered_text}
use Rattle.trace_lines.specs.declared.finding.WhyIgnored.{WhyIgnored}
use Rattle.trace_lines.specs.declared.finding.WhyIgnored.TheVariants as why

-- the copy of a process in a processor
abbrev pub copy_text : List ℕ → ℕ → List ℕ
copy_text name processor = name ++ numbered_text (codes " in processor ") processor []

abbrev pub copy_with_text : List ℕ → ℕ → List ℕ → ℕ → List ℕ
copy_with_text name processor deed number = copy_text name processor ++ numbered_text deed number []

abbrev pub why_text : WhyIgnored → List ℕ
why_text why.Acts = codes ": it acts itself"
why_text why.OtherEra = codes ": that is of another era"
why_text why.NotNext = codes ": that isn't the next one"

abbrev pub ignores_text : List ℕ → ℕ → ℕ → WhyIgnored → List ℕ
ignores_text name processor number why =
    copy_with_text name processor (codes " ignores checkpoint ") number ++ why_text why

abbrev pub hears_taken_text : List ℕ → ℕ → ℕ → List ℕ
hears_taken_text name processor number =
    copy_with_text name processor (codes " hears of its checkpoint ") number ++ codes " that it was taken"
