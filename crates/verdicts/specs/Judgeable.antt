-- What is known of a program before it is judged. Our own.
use Rattle.std.specs.Prelude.{List}
use Rattle.std.specs.List.{All}
use Rattle.tal_tree.specs.Limits.{IsWithinLimits}
use Rattle.tal_tree.specs.Ordered.{IsOrdered}
use Rattle.tal_tree.specs.Regular.{IsRegular}
use Rattle.tal_tree.specs.declared.program.Program.{Program}
use Rattle.tal_tree.specs.declared.site.Kind.{Kind}
use Rattle.tal_tree.specs.declared.site.Kind.TheVariants as kind
use Rattle.tal_tree.specs.declared.site.ProcessSpec.{ProcessSpec}

-- a program that can be judged: as every program that is read, it calls only procedures before the caller, keeps the
-- limits and is regular
pub record IsJudgeable (program : Program) : Type 0 where
  pub ordered : IsOrdered program
  pub limits : IsWithinLimits program
  pub regular : IsRegular program

abbrev pub IsJudgeableKind : Kind → Type 0
IsJudgeableKind (kind.Disc sectors mirrored) = Unit {0}
IsJudgeableKind (kind.Pair program) = IsJudgeable program

abbrev pub AreJudgeable : List ProcessSpec → Type 0
AreJudgeable specs = All (λ spec. IsJudgeableKind spec.what) specs
