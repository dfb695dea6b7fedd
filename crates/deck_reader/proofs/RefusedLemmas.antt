-- Why bytes are refused as a deck.
use Rattle.std.proofs.Common.{◌≡◌, ℕ, ◌<◌, ◌≤◌, zero, suc, Bool, true, false, cond, List, [], ◌∷◌, ◌++◌, length, get_or}
use Rattle.std.proofs.Common.{Option, Some, None, option_map, refl, sym, ap, ap₂, ◌∙◌, subst, arith, inl, inr}
use Rattle.std.specs.Prelude.{◌≢◌, Result, Ok, Err, IfErr}
use Rattle.gd_words.specs.Memory.{no_memory}
use Rattle.name_table.specs.Entries.{Named}
use Rattle.tal_laws.proofs.WithinLimits.{read_is_within}
use Rattle.tal_laws.specs.tal_reader.proofs.Reading.{one-program, refused-as-none}
use Rattle.tal_tree.specs.declared.fault.DeckFault.{DeckFault}
use Rattle.tal_tree.specs.declared.fault.DeckFault.TheVariants as fault
use Rattle.tal_tree.specs.declared.fault.TalFault.TheVariants as tal
use Rattle.tal_tree.specs.declared.program.Program.{Program}
use Rattle.tal_tree.specs.declared.site.Kind.{Kind}
use Rattle.tal_tree.specs.declared.site.Kind.TheVariants as kind
use Rattle.tal_tree.specs.declared.site.ProcessSpec.{ProcessSpec}
use Rattle.deck_reader.specs.Decks.{IsKindOf, IsProcessOf, AreProcessesOf}
use Rattle.deck_lines.specs.Lines.{lines_of}
use Rattle.deck_reader.specs.Outlined.{outline_of}
use Rattle.deck_reader.specs.Refusals.{IsBreachFault, IsFaultOf, IsFirstProgramFault, IsOutlineFault, IsOwnFault}
use Rattle.deck_reader.specs.Refusals.{IsRefusedAs, IsRefusalOf, Tells, fault_at, name_fault}
use Rattle.deck_reader.specs.declared.deck.Deck.{Deck}
use Rattle.deck_reader.specs.declared.line_fault.LineFault.{LineFault}
use Rattle.deck_reader.specs.declared.line_fault.LineFault.TheVariants as line
use Rattle.deck_reader.specs.declared.names.NameFault.{NameFault}
use Rattle.deck_reader.specs.declared.outline.Body.{Body}
use Rattle.deck_reader.specs.declared.outline.Body.TheVariants as body
use Rattle.deck_reader.specs.declared.outline.Outline.{Outline}
use Rattle.deck_reader.specs.declared.outline.ProcessLines.{ProcessLines}
use Rattle.deck_reader.specs.declared.outline.ProgramLines.{ProgramLines}
use Rattle.deck_reader.specs.declared.step.Breach.{Breach}
use Rattle.deck_reader.specs.declared.told.Told.{Told}
use Rattle.deck_reader.specs.declared.told.Told.TheVariants as told
use Rattle.deck_reader.proofs.EachLemmas.{IsDoneTo}

-- a program that was read has few procedures
pub few_procedures : (lines : Body) (program : Program) → IsKindOf lines (kind.Pair program)
    → length program.procedures ≤ 64
few_procedures (body.Disc sectors mirrored) program h = absurd h
few_procedures (body.Pair lines) program h = (read_is_within lines.text program h).procedures.1

-- what lines say of a process is one thing
one_kind : (lines : Body) (a b : Kind) → IsKindOf lines a → IsKindOf lines b → a ≡ b
one_kind (body.Disc told both) (kind.Disc x one) (kind.Disc y other) h k =
    ap₂ kind.Disc (h.0 ∙ sym k.0) (h.1 ∙ sym k.1)
one_kind (body.Pair lines) (kind.Pair p) (kind.Pair q) h k = ap kind.Pair (one-program lines.text p q h k)
one_kind (body.Disc told both) (kind.Pair p) b h k = absurd h
one_kind (body.Disc told both) (kind.Disc x one) (kind.Pair q) h k = absurd k
one_kind (body.Pair lines) (kind.Disc x one) b h k = absurd h
one_kind (body.Pair lines) (kind.Pair p) (kind.Disc y other) h k = absurd k

abbrev process_with : List ℕ → ℕ → ℕ → Kind → ProcessSpec
process_with name primary backup what = record { name = name; primary = primary; backup = backup; what = what }

one_process : (lines : Named ProcessLines) (a b : ProcessSpec) → IsProcessOf lines a → IsProcessOf lines b → a ≡ b
one_process lines a b h k =
    ap (λ name. process_with name a.primary a.backup a.what) (h.name ∙ sym k.name)
    ∙ ap (λ primary. process_with b.name primary a.backup a.what) (h.primary ∙ sym k.primary)
    ∙ ap (λ backup. process_with b.name b.primary backup a.what) (h.backup ∙ sym k.backup)
    ∙ ap (process_with b.name b.primary b.backup) (one_kind lines.1.body a.what b.what h.what k.what)

pub same_processes : (lines : List (Named ProcessLines)) (xs ys : List ProcessSpec) → AreProcessesOf lines xs
    → AreProcessesOf lines ys → xs ≡ ys
same_processes [] [] [] h k = refl
same_processes (one ∷ rest) (x ∷ xs) (y ∷ ys) h k =
    ap₂ (λ z zs. z ∷ zs) (one_process one x y h.0 k.0) (same_processes rest xs ys h.1 k.1)
same_processes [] (x ∷ xs) ys h k = absurd h
same_processes [] [] (y ∷ ys) h k = absurd k
same_processes (one ∷ rest) [] ys h k = absurd h
same_processes (one ∷ rest) (x ∷ xs) [] h k = absurd k

-- a program that reads isn't refused
pub not_both : (lines : Body) (what : Kind) (f : DeckFault) → IsKindOf lines what → IsRefusedAs lines f → ⊥
not_both (body.Disc told both) what f h refused = refused
not_both (body.Pair lines) (kind.Disc x one) f h refused = h
not_both (body.Pair lines) (kind.Pair p) (fault.Program number why) h refused =
    refused-as-none lines.text why p refused.1 h
not_both (body.Pair lines) (kind.Pair p) _ h refused = absurd refused

-- where all programs read none is refused
pub none_refused : (lines : List (Named ProcessLines)) (specs : List ProcessSpec) (f : DeckFault)
    → AreProcessesOf lines specs → IsFirstProgramFault lines f → ⊥
none_refused [] specs f each refused = refused
none_refused (one ∷ rest) [] f each refused = absurd each
none_refused (one ∷ rest) (x ∷ xs) f each (inl here) = not_both one.1.body x.what f each.0.what here
none_refused (one ∷ rest) (x ∷ xs) f each (inr later) = none_refused rest xs f each.1 later.2

-- each process that was read is that of some lines
pub kind_at : (lines : List (Named ProcessLines)) (specs : List ProcessSpec) (k : ℕ) (d : ProcessSpec)
    → AreProcessesOf lines specs → k < length specs
    → (told : Body) × IsKindOf told (get_or specs k d).what
kind_at [] [] k d each there = absurd (omega arith)
kind_at [] (x ∷ xs) k d each there = absurd each
kind_at (one ∷ rest) [] k d each there = absurd each
kind_at (one ∷ rest) (x ∷ xs) zero d each there = (one.1.body, each.0.what)
kind_at (one ∷ rest) (x ∷ xs) (suc k) d each there = kind_at rest xs k d each.1 (omega arith)

-- the first that is refused, where those before it read
first_after : (front later : List (Named ProcessLines)) (one : Named ProcessLines) (specs : List ProcessSpec)
    (f : DeckFault) → AreProcessesOf front specs → IsRefusedAs one.1.body f
    → IsFirstProgramFault (front ++ one ∷ later) f
first_after [] later one specs f each refused = inl refused
first_after (x ∷ xs) later one [] f each refused = absurd each
first_after (x ∷ xs) later one (y ∷ ys) f each refused =
    inr (y.what, each.0.what, first_after xs later one ys f each.1 refused)

-- what is told for one reason is told for another that follows from it
pub tells_too : (P Q : DeckFault → Type 0) → ((f : DeckFault) → P f → Q f) → (f : DeckFault) → Tells P f → Tells Q f
tells_too P Q gives (fault.NoMemory _) h = tt
tells_too P Q gives (fault.Program number why) h = (h.0, gives (fault.Program number why) h.1)
tells_too P Q gives f h = gives f h

-- the bytes of what lines say are refused for its fault
pub refusal : (bytes : List ℕ) (f : DeckFault) → length bytes ≤ 1048576
    → Tells (IsFaultOf (outline_of (lines_of bytes))) f → f ≢ fault.TooLong → f ≢ fault.NoMemory no_memory
    → IsRefusalOf bytes f
refusal bytes fault.TooLong short h long memory = absurd (long refl)
refusal bytes (fault.NoMemory _) short h long memory = absurd (memory refl)
refusal bytes (fault.Program number why) short h long memory = (short, h.1)
refusal bytes f short h long memory = (short, h)

-- that memory ran out is told as no fault of a program
pub no_memory_told : (P : DeckFault → Type 0) (f : DeckFault) (number : ℕ) → Tells P f
    → f ≢ fault.Program number (tal.NoMemory no_memory)
no_memory_told P (fault.Program n why) number h same = let reason : why ≡ tal.NoMemory no_memory = cc in h.0 reason
no_memory_told P f number h same = cc

-- what lines say is no fault of length
body_is_short : (lines : Body) → IsRefusedAs lines fault.TooLong → ⊥
body_is_short (body.Disc sectors mirrored) h = h
body_is_short (body.Pair program) h = h

first_is_short : (lines : List (Named ProcessLines)) → IsFirstProgramFault lines fault.TooLong → ⊥
first_is_short [] h = h
first_is_short (lines ∷ rest) (inl here) = body_is_short lines.1.body here
first_is_short (lines ∷ rest) (inr later) = first_is_short rest later.2

line_is_short : (number : ℕ) (why : LineFault) → fault.TooLong ≡ fault_at number why → ⊥
line_is_short number line.Form e = cc
line_is_short number line.NameTwice e = cc
line_is_short number line.SameProcessor e = cc
line_is_short number line.NoProcessor e = cc
line_is_short number (line.Limit which) e = cc
line_is_short number line.NoEnd e = cc

own_is_short : (own : Option ProgramLines) (number : ℕ) (why : LineFault)
    → IsOwnFault own (fault_at number why) fault.TooLong → ⊥
own_is_short None number why h = line_is_short number why h
own_is_short (Some program) number why (inl here) = here
own_is_short (Some program) number why (inr later) = line_is_short number why later.2

name_is_short : (misnamed : Option NameFault) → option_map name_fault misnamed ≡ Some fault.TooLong → ⊥
name_is_short None e = cc
name_is_short (Some misnamed) e = by misnamed.own (let same : name_fault misnamed ≡ fault.TooLong = cc in same)
  where
    by : (b : Bool) → cond b (fault.OpensItself misnamed.line) (fault.UnknownName misnamed.line) ≡ fault.TooLong → ⊥
    by true e = cc
    by false e = cc

fault_is_short : (said : Told) → IsFaultOf said fault.TooLong → ⊥
fault_is_short (told.Whole outline) (inl first) = first_is_short outline.processes first
fault_is_short (told.Whole outline) (inr named) = name_is_short _ named.2
fault_is_short (told.Broken breach) (inl first) = first_is_short breach.processes first
fault_is_short (told.Broken breach) (inr own) = own_is_short breach.own breach.line breach.why own.2

pub not_too_long : (said : Told) (f : DeckFault) → Tells (IsFaultOf said) f → f ≢ fault.TooLong
not_too_long said f h same = fault_is_short said (subst (Tells (IsFaultOf said)) same h)

-- where what lines say is told, the bytes are refused for it
pub errs_refused : (bytes : List ℕ) (answer : Result Deck DeckFault) → length bytes ≤ 1048576
    → IfErr answer (λ f. Tells (IsFaultOf (outline_of (lines_of bytes))) f)
    → IfErr answer (λ f. f ≢ fault.NoMemory no_memory → IsRefusalOf bytes f)
errs_refused bytes (Ok deck) short h = tt
errs_refused bytes (Err f) short h =
    λ memory. refusal bytes f short h (not_too_long (outline_of (lines_of bytes)) f h) memory

pub errs_short : (bytes : List ℕ) (answer : Result Deck DeckFault) → length bytes ≤ 1048576
    → IfErr answer (λ f. Tells (IsFaultOf (outline_of (lines_of bytes))) f)
    → (answer ≡ Err fault.TooLong → 1048576 < length bytes) × (1048576 < length bytes → answer ≡ Err fault.TooLong)
errs_short bytes (Ok deck) short h = (λ e. absurd (cc), λ long. absurd (omega (arith, short, long)))
errs_short bytes (Err f) short h = (
  λ e. absurd (not_too_long (outline_of (lines_of bytes)) f h (let same : f ≡ fault.TooLong = cc in same)),
  λ long. absurd (omega (arith, short, long)),
)

pub of_whole : (outline : Outline) (answer : Result Deck DeckFault) (said : Told) → said ≡ told.Whole outline
    → IfErr answer (λ f. Tells (IsOutlineFault outline) f) → IfErr answer (λ f. Tells (IsFaultOf said) f)
of_whole outline answer said e h = subst (λ all. IfErr answer (λ f. Tells (IsFaultOf all) f)) (sym e) (by answer h)
  where
    by : (answer : Result Deck DeckFault) → IfErr answer (λ f. Tells (IsOutlineFault outline) f)
        → IfErr answer (λ f. Tells (IsFaultOf (told.Whole outline)) f)
    by (Ok deck) h = tt
    by (Err f) h = tells_too (IsOutlineFault outline) (IsFaultOf (told.Whole outline)) (λ g k. k) f h

pub of_broken : (breach : Breach) (f : DeckFault) (said : Told) → said ≡ told.Broken breach
    → Tells (IsBreachFault breach) f → Tells (IsFaultOf said) f
of_broken breach f said e h = subst (λ all. Tells (IsFaultOf all) f) (sym e)
    (tells_too (IsBreachFault breach) (IsFaultOf (told.Broken breach)) (λ g k. k) f h)

-- the first that is refused, where those before it read, is the fault of programs, of a line that can't stand, and of
-- an outline
pub programs_tell : (all rest later : List (Named ProcessLines)) (one : Named ProcessLines) (specs : List ProcessSpec)
    (f : DeckFault) → IsDoneTo IsProcessOf all rest specs → rest ≡ one ∷ later
    → Tells (IsRefusedAs one.1.body) f → Tells (IsFirstProgramFault all) f
programs_tell all rest later one specs f done e h =
    tells_too (IsRefusedAs one.1.body) (IsFirstProgramFault all)
    (λ g refused. subst (λ lines. IsFirstProgramFault lines g) (sym (done.whole ∙ ap (λ xs. done.front ++ xs) e))
    (first_after done.front later one specs g done.each refused)) f h

pub outline_tells : (outline : Outline) (f : DeckFault) → Tells (IsFirstProgramFault outline.processes) f
    → Tells (IsOutlineFault outline) f
outline_tells outline f h =
    tells_too (IsFirstProgramFault outline.processes) (IsOutlineFault outline) (λ g first. inl first) f h

pub breach_tells : (breach : Breach) (f : DeckFault) → Tells (IsFirstProgramFault breach.processes) f
    → Tells (IsBreachFault breach) f
breach_tells breach f h =
    tells_too (IsFirstProgramFault breach.processes) (IsBreachFault breach) (λ g first. inl first) f h

pub own_tells : (breach : Breach) (specs : List ProcessSpec) (f : DeckFault) → AreProcessesOf breach.processes specs
    → Tells (IsOwnFault breach.own (fault_at breach.line breach.why)) f → Tells (IsBreachFault breach) f
own_tells breach specs f each h = tells_too (IsOwnFault breach.own (fault_at breach.line breach.why))
    (IsBreachFault breach) (λ g own. inr (specs, each, own)) f h
