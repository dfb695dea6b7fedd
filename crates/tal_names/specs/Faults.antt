-- The faults of a text, and which of them is the answer.
use Rattle.std.specs.Prelude.{ℕ, ◌≡◌, ◌==◌, nat_lt, Bool, false, List, [], ◌∷◌, Option, Some, None, Contains}
use Rattle.std.specs.Prelude.{if◌then◌else◌}
use Rattle.std.specs.List.{All}
use Rattle.tal_syntax.specs.tal_tokens.specs.declared.token.At.{At}
use Rattle.tal_syntax.specs.tal_tree.specs.declared.fault.TalFault.{TalFault}
use Rattle.tal_syntax.specs.tal_tree.specs.declared.fault.TalFault.TheVariants as tal
use Rattle.tal_syntax.specs.tal_tree.specs.declared.place.Place.{Place}
use Rattle.tal_syntax.specs.tal_tree.specs.LimitNumbers.{program_limit_number}
use Rattle.tal_names.specs.declared.fault.Rule.{Rule}
use Rattle.tal_names.specs.declared.fault.Rule.TheVariants.{Unknown, Twice, WrongKind, NotBefore, Prologue, Limit}
use Rattle.tal_names.specs.declared.fault.Rule.TheVariants.{NoMain}
use Rattle.tal_names.specs.declared.fault.RuleFault.{RuleFault}

-- the fault as it is answered
abbrev pub answer_by : Rule → Place → TalFault
answer_by Unknown place = tal.Unknown place
answer_by Twice place = tal.Twice place
answer_by WrongKind place = tal.WrongKind place
answer_by NotBefore place = tal.NotBefore place
answer_by Prologue place = tal.Prologue place
answer_by (Limit limit) place = tal.Limit limit place
answer_by NoMain place = tal.NoMain place

abbrev pub answer_of : RuleFault → TalFault
answer_of f = answer_by f.rule f.place

-- the faults in the order in which one goes before another at the same place
abbrev pub rule_number : Rule → ℕ
rule_number Unknown = 6
rule_number Twice = 7
rule_number WrongKind = 8
rule_number NotBefore = 9
rule_number Prologue = 10
rule_number (Limit limit) = 11
rule_number NoMain = 12

-- of two limits the lower goes before
abbrev pub which_of : Rule → ℕ
which_of (Limit limit) = program_limit_number limit
which_of Unknown = 0
which_of Twice = 0
which_of WrongKind = 0
which_of NotBefore = 0
which_of Prologue = 0
which_of NoMain = 0

-- whether a pair of numbers is below another: by the first ones, and where these are equal by the rest
abbrev pub below : ℕ → ℕ → Bool → Bool
below a b rest = if a == b then rest else nat_lt a b

-- whether a fault goes before another: the one at the earlier place, there the one of the lower number, then of the
-- lower limit
abbrev pub is_before : RuleFault → RuleFault → Bool
is_before f h =
    below f.place.line h.place.line
    (below f.place.column h.place.column
    (below (rule_number f.rule) (rule_number h.rule)
    (nat_lt (which_of f.rule) (which_of h.rule))))

-- the one of a fault so far and another that goes before
abbrev pub earlier : Option RuleFault → RuleFault → Option RuleFault
earlier None f = Some f
earlier (Some h) f = if is_before f h then Some f else Some h

-- the least of a fault so far and these
abbrev pub least : Option RuleFault → List RuleFault → Option RuleFault
least so_far [] = so_far
least so_far (f ∷ fs) = least (earlier so_far f) fs

-- a fault is the least of these: it is one of them, and none goes before it
pub record IsLeast (f : RuleFault) (fs : List RuleFault) : Type 0 where
  pub one : Contains fs f
  pub first : All (λ h. is_before h f ≡ false) fs

-- one fault at a token
abbrev pub fault_at : At → Rule → List RuleFault
fault_at at rule = record { place = at.place; rule = rule } ∷ []

-- these faults, where the condition holds
abbrev pub if_so : Bool → List RuleFault → List RuleFault
if_so holds fs = if holds then fs else []
