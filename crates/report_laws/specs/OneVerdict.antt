-- Two verdicts on one report.
use Rattle.std.specs.Prelude.{◌≡◌, ℕ, Result, Err}
use Rattle.report_judge.specs.declared.judge.VerifyFault.{VerifyFault}
use Rattle.report_judge.specs.declared.judge.VerifyFault.TheVariants as refusal

-- memory ran out for one of them, or they are the same
abbrev pub IsSameVerdict : Result ℕ VerifyFault → Result ℕ VerifyFault → Type 0
IsSameVerdict (Err (refusal.NoMemory memory)) other = Unit {0}
IsSameVerdict one (Err (refusal.NoMemory memory)) = Unit {0}
IsSameVerdict one other = one ≡ other
