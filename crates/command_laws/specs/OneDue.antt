-- When two answers to one command are the same.
use Rattle.std.specs.Prelude.{◌≡◌, Err}
use Rattle.discipline.specs.Verdict.{Agree}
use Rattle.command_dues.specs.declared.due.Due.{Due}
use Rattle.command_dues.specs.declared.due.Due.TheVariants as due
use Rattle.command_dues.specs.declared.due.RefusedSite.{RefusedSite}

-- the first program that is refused is that of the same process, for the same cause, told by the same lines; the paths
-- of two refusals are as long
pub record IsSameRefusal (one other : RefusedSite) : Type 0 where
  pub site : one.site ≡ other.site
  pub process : one.found.process ≡ other.found.process
  pub lines : one.found.lines ≡ other.found.lines
  pub cause : Agree (Err one.found.refusal) (Err other.found.refusal)

-- what is due is the same, and so its text is, if neither is a read fault or that memory ran out
abbrev pub IsSameDue : Due → Due → Type 0
IsSameDue (due.NoMemory _) _ = Unit {0}
IsSameDue _ (due.NoMemory _) = Unit {0}
IsSameDue due.ReadFault _ = Unit {0}
IsSameDue _ due.ReadFault = Unit {0}
IsSameDue (due.ProgramRefused one) (due.ProgramRefused other) = IsSameRefusal one other
IsSameDue (due.Unadvised one) (due.Unadvised other) = IsSameRefusal one other
IsSameDue one other = one ≡ other
