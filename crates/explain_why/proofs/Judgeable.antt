-- What some text reads as can be judged.
use Rattle.std.proofs.Common.{◌≡◌, ℕ, List, slice_get, Some, refl}
use Rattle.std.specs.List.{slice_index_or}
use Rattle.std.proofs.lemmas.Option.{slice_get-get_or}
use Rattle.deck_reader.specs.tal_laws.proofs.Ordered.{read_is_ordered}
use Rattle.deck_reader.specs.tal_laws.proofs.Regular.{read_is_regular}
use Rattle.deck_reader.specs.tal_laws.proofs.WithinLimits.{read_is_within}
use Rattle.deck_reader.specs.tal_reader.specs.Reads.{Reads}
use Rattle.tal_tree.specs.declared.program.Program.{Program}
use Rattle.tal_tree.specs.declared.site.Kind.{Kind}
use Rattle.tal_tree.specs.declared.site.Kind.TheVariants as kind
use Rattle.tal_tree.specs.declared.site.ProcessSpec.{ProcessSpec}
use Rattle.finding_text.specs.verdicts.specs.Judgeable.{AreJudgeable, IsJudgeableKind}

-- a program that some text reads as
abbrev pub Read : Program → Type 0
Read program = (text : List ℕ) × Reads text program

judgeable-kind : (what : Kind) → ((program : Program) → what ≡ kind.Pair program → Read program)
    → IsJudgeableKind what
judgeable-kind (kind.Disc sectors mirrored) read = tt
judgeable-kind (kind.Pair program) read =
    let found = read program refl in
    record {
      ordered = read_is_ordered found.0 program found.1;
      limits = read_is_within found.0 program found.1;
      regular = read_is_regular found.0 program found.1;
    }

pub judgeable-all : (specs : List ProcessSpec)
    → ((number : ℕ) (spec : ProcessSpec) (program : Program) → slice_get specs number ≡ Some spec
    → spec.what ≡ kind.Pair program → Read program)
    → AreJudgeable specs
judgeable-all specs read = λ k d there. judgeable-kind (slice_index_or specs k d).what
    (λ program pair. read k (slice_index_or specs k d) program (slice_get-get_or specs k d there) pair)
