-- The least of faults is one alone.
use Rattle.std.proofs.Common.{◌≡◌, ℕ, Bool, false, List, [], arith, refl, sym, ap, ap₂}
use Rattle.std.proofs.lemmas.Bool.Decides.{nat_tests}
use Rattle.std.proofs.lemmas.List.Elements.{All-contains}
use Rattle.std.specs.Prelude.{nat_lt}
use Rattle.tal_tree.specs.LimitNumbers.{program_limit_number}
use Rattle.tal_tree.specs.declared.limit.ProgramLimit.{ProgramLimit}
use Rattle.tal_tree.specs.declared.limit.ProgramLimit.TheVariants.{Globals, GlobalWords, ArrayWords, Files, Procedures}
use Rattle.tal_tree.specs.declared.limit.ProgramLimit.TheVariants.{Locals, Statements, Levels, KeptReplies}
use Rattle.tal_tree.specs.declared.place.Place.{Place}
use Rattle.tal_meaning.specs.tal_names.specs.declared.fault.Rule.{Rule}
use Rattle.tal_meaning.specs.tal_names.specs.declared.fault.Rule.TheVariants.{Unknown, Twice, WrongKind, NotBefore}
use Rattle.tal_meaning.specs.tal_names.specs.declared.fault.Rule.TheVariants.{Prologue, Limit}
use Rattle.tal_meaning.specs.tal_names.specs.declared.fault.Rule.TheVariants.{NoMain}
use Rattle.tal_meaning.specs.tal_names.specs.declared.fault.RuleFault.{RuleFault}
use Rattle.tal_meaning.specs.tal_names.specs.Faults.{answer_by, answer_of, rule_number, which_of, below, is_before}
use Rattle.tal_meaning.specs.tal_names.specs.Faults.{IsLeast}

same-by : (a b : ℕ) (r s : Bool) → below a b r ≡ false → below b a s ≡ false → a ≡ b
same-by a b r s h i = grind (arith, nat_tests)

rest-by : (a b : ℕ) (r : Bool) → a ≡ b → below a b r ≡ false → r ≡ false
rest-by a b r e h = grind (arith, nat_tests)

no-less : (a b : ℕ) → nat_lt a b ≡ false → nat_lt b a ≡ false → a ≡ b
no-less a b h i = grind (arith, nat_tests)

same-limit : (x y : ProgramLimit) → program_limit_number x ≡ program_limit_number y → x ≡ y
same-limit Globals Globals w = refl
same-limit GlobalWords GlobalWords w = refl
same-limit ArrayWords ArrayWords w = refl
same-limit Files Files w = refl
same-limit Procedures Procedures w = refl
same-limit Locals Locals w = refl
same-limit Statements Statements w = refl
same-limit Levels Levels w = refl
same-limit KeptReplies KeptReplies w = refl
same-limit x y w = absurd cc

same-rule : (r s : Rule) → rule_number r ≡ rule_number s → which_of r ≡ which_of s → r ≡ s
same-rule Unknown Unknown n w = refl
same-rule Twice Twice n w = refl
same-rule WrongKind WrongKind n w = refl
same-rule NotBefore NotBefore n w = refl
same-rule Prologue Prologue n w = refl
same-rule (Limit x) (Limit y) n w = ap Limit (same-limit x y w)
same-rule NoMain NoMain n w = refl
same-rule r s n w = absurd cc

same-place : (p q : Place) → p.line ≡ q.line → p.column ≡ q.column → p ≡ q
same-place p q l c = (let place : ℕ → ℕ → Place = λ x y. record { line = x; column = y } in ap₂ place l c)

same-answer : (f h : RuleFault) → f.place.line ≡ h.place.line → f.place.column ≡ h.place.column → f.rule ≡ h.rule
    → answer_of f ≡ answer_of h
same-answer f h l c r = ap₂ answer_by r (same-place f.place h.place l c)

-- faults of which none goes before the other are answered alike
level : (f h : RuleFault) → is_before f h ≡ false → is_before h f ≡ false → answer_of f ≡ answer_of h
level f h a b =
    let line : f.place.line ≡ h.place.line = same-by f.place.line h.place.line _ _ a b in
    let a1 = rest-by f.place.line h.place.line _ line a in
    let b1 = rest-by h.place.line f.place.line _ (sym line) b in
    let column : f.place.column ≡ h.place.column = same-by f.place.column h.place.column _ _ a1 b1 in
    let a2 = rest-by f.place.column h.place.column _ column a1 in
    let b2 = rest-by h.place.column f.place.column _ (sym column) b1 in
    let number : rule_number f.rule ≡ rule_number h.rule =
    same-by (rule_number f.rule) (rule_number h.rule) _ _ a2 b2 in
    let a3 = rest-by (rule_number f.rule) (rule_number h.rule) _ number a2 in
    let b3 = rest-by (rule_number h.rule) (rule_number f.rule) _ (sym number) b2 in
    same-answer f h line column (same-rule f.rule h.rule number (no-less (which_of f.rule) (which_of h.rule) a3 b3))

pub one-answer : (fs : List RuleFault) (f h : RuleFault) → IsLeast f fs → IsLeast h fs → answer_of f ≡ answer_of h
one-answer fs f h l m =
    level f h (All-contains (λ x. is_before x h ≡ false) fs f m.first l.one)
    (All-contains (λ x. is_before x f ≡ false) fs h l.first m.one)

pub none-least : (f : RuleFault) → IsLeast f [] → ⊥
none-least f l = All-contains (λ x. ⊥) [] f (λ k x low. absurd (omega arith)) l.one
