-- Names that are found, and the lines of acts that are told by them.
use Rattle.std.proofs.Common.{◌≡◌, ℕ, zero, suc, ◌+◌, ◌<◌, Bool, true, false, cond, nat_eq, ◌||◌, List, [], ◌∷◌, ◌++◌}
use Rattle.std.proofs.Common.{length, Option, Some, refl, sym, ap, subst, ◌∙◌, arith}
use Rattle.std.specs.Prelude.{codes, slice_get}
use Rattle.std.specs.List.{list_any}
use Rattle.std.specs.Option.{option_and_then, option_map, unwrap_or}
use Rattle.std.specs.Str.{bytes_eq}
use Rattle.std.proofs.lemmas.Bool.{eq-eqb}
use Rattle.std.proofs.lemmas.Slice.Eq.{bytes_eq-Decides}
use Rattle.deck_lines.specs.Cuts.{back_of, front_of}
use Rattle.plain_semantics.specs.Openers.{named_from, openers_of}
use Rattle.report_reader.specs.Names.{opener_from, opener_named, process_named, terminal_from, terminal_named}
use Rattle.report_reader.specs.Parts.{around_sign, cut_at}
use Rattle.report_reader.specs.Telling.{enter_told, or_else, other_told, print_told, take_of, take_told, told_by}
use Rattle.report_reader.specs.declared.told.Told.TheVariants as told
use Rattle.tal_tree.specs.declared.act.Act.TheVariants.{Step, Take, Enter, Print}
use Rattle.tal_tree.specs.declared.site.OpenerSpec.{OpenerSpec}
use Rattle.tal_tree.specs.declared.site.ProcessSpec.{ProcessSpec}
use Rattle.tal_tree.specs.declared.site.Site.{Site}
use Rattle.tal_tree.specs.declared.site.TerminalSpec.{TerminalSpec}
use Rattle.trace_print.specs.ActLine.{opener_name, who_name}
use Rattle.trace_print.specs.ShownLine.{process_name, terminal_name}
use Rattle.told_reports.specs.NamesApart.{AreApart, IsPlainName, TellsNamesApart}

-- Names

at-place : {X : Type 0} (all : List X) (n : ℕ) → n < length all → (x : X) × (slice_get all n ≡ Some x)
at-place [] n there = absurd (omega arith)
at-place (x ∷ all) zero there = (x, refl)
at-place (x ∷ all) (suc n) there = at-place all n (omega arith)

apart-tail : {X : Type 0} (name : X → List ℕ) (x : X) (all : List X) → AreApart name (x ∷ all) → AreApart name all
apart-tail name x all apart m n one other a b same =
    let e = apart (suc m) (suc n) one other a b same in omega (arith, e)

-- a process is found by its name
found-process : (number n : ℕ) (all : List ProcessSpec) (one : ProcessSpec) → slice_get all n ≡ Some one
    → AreApart (λ (x : ProcessSpec). x.name) all → named_from one.name number all ≡ Some (number + n)
found-process number n [] one there apart = absurd (cc)
found-process number zero (first ∷ rest) one there apart =
    let same : first ≡ one = cc in
    let equal : bytes_eq one.name first.name ≡ true =
    (bytes_eq-Decides one.name first.name).1 (ap (λ (x : ProcessSpec). x.name) (sym same)) in
    ap (λ (b : Bool). cond b (Some number) (named_from one.name (number + 1) rest)) equal ∙ ap Some (omega arith)
found-process number (suc n) (first ∷ rest) one there apart =
    by (bytes_eq one.name first.name) refl
    (found-process (number + 1) n rest one there (apart-tail (λ (x : ProcessSpec). x.name) first rest apart))
  where
    by : (b : Bool) → bytes_eq one.name first.name ≡ b
        → named_from one.name (number + 1) rest ≡ Some (number + 1 + n)
        → cond b (Some number) (named_from one.name (number + 1) rest) ≡ Some (number + suc n)
    by true equal later =
        let same : ◌≡◌ {A = ℕ} (suc n) zero =
        apart (suc n) zero one first there refl ((bytes_eq-Decides one.name first.name).0 equal) in
        absurd (omega (arith, same))
    by false other later = later ∙ ap Some (omega arith)

-- a terminal is found by its name
found-terminal : (number n : ℕ) (all : List TerminalSpec) (one : TerminalSpec) → slice_get all n ≡ Some one
    → AreApart (λ (x : TerminalSpec). x.name) all → terminal_from one.name number all ≡ Some (number + n)
found-terminal number n [] one there apart = absurd (cc)
found-terminal number zero (first ∷ rest) one there apart =
    let same : first ≡ one = cc in
    let equal : bytes_eq one.name first.name ≡ true =
    (bytes_eq-Decides one.name first.name).1 (ap (λ (x : TerminalSpec). x.name) (sym same)) in
    ap (λ (b : Bool). cond b (Some number) (terminal_from one.name (number + 1) rest)) equal ∙ ap Some (omega arith)
found-terminal number (suc n) (first ∷ rest) one there apart =
    by (bytes_eq one.name first.name) refl
    (found-terminal (number + 1) n rest one there (apart-tail (λ (x : TerminalSpec). x.name) first rest apart))
  where
    by : (b : Bool) → bytes_eq one.name first.name ≡ b
        → terminal_from one.name (number + 1) rest ≡ Some (number + 1 + n)
        → cond b (Some number) (terminal_from one.name (number + 1) rest) ≡ Some (number + suc n)
    by true equal later =
        let same : ◌≡◌ {A = ℕ} (suc n) zero =
        apart (suc n) zero one first there refl ((bytes_eq-Decides one.name first.name).0 equal) in
        absurd (omega (arith, same))
    by false other later = later ∙ ap Some (omega arith)

-- an opener is found by its name
found-opener : (site : Site) (number n : ℕ) (all : List OpenerSpec) (one : OpenerSpec) → slice_get all n ≡ Some one
    → AreApart (λ (x : OpenerSpec). who_name site x.who) all
    → opener_from site (who_name site one.who) number all ≡ Some (number + n)
found-opener site number n [] one there apart = absurd (cc)
found-opener site number zero (first ∷ rest) one there apart =
    let same : first ≡ one = cc in
    let equal : bytes_eq (who_name site one.who) (who_name site first.who) ≡ true =
    (bytes_eq-Decides (who_name site one.who) (who_name site first.who)).1
    (ap (λ (x : OpenerSpec). who_name site x.who) (sym same)) in
    ap (λ (b : Bool). cond b (Some number) (opener_from site (who_name site one.who) (number + 1) rest)) equal
    ∙ ap Some (omega arith)
found-opener site number (suc n) (first ∷ rest) one there apart =
    by (bytes_eq (who_name site one.who) (who_name site first.who)) refl
    (found-opener site (number + 1) n rest one there
    (apart-tail (λ (x : OpenerSpec). who_name site x.who) first rest apart))
  where
    by : (b : Bool) → bytes_eq (who_name site one.who) (who_name site first.who) ≡ b
        → opener_from site (who_name site one.who) (number + 1) rest ≡ Some (number + 1 + n)
        → cond b (Some number) (opener_from site (who_name site one.who) (number + 1) rest) ≡ Some (number + suc n)
    by true equal later =
        let same : ◌≡◌ {A = ℕ} (suc n) zero =
        apart (suc n) zero one first there refl ((bytes_eq-Decides (who_name site one.who)
        (who_name site first.who)).0 equal) in
        absurd (omega (arith, same))
    by false other later = later ∙ ap Some (omega arith)

pub process-told : (site : Site) (process : ℕ) → TellsNamesApart site → process < length site.processes
    → process_named site (process_name site process) ≡ Some process
process-told site process apart within =
    let at = at-place site.processes process within in
    ap (λ (o : Option ProcessSpec). process_named site (unwrap_or (option_map (λ spec. spec.name) o) [])) at.1
    ∙ found-process 0 process site.processes at.0 at.1 apart.processes ∙ ap Some (omega arith)

pub terminal-told : (site : Site) (terminal : ℕ) → TellsNamesApart site → terminal < length site.terminals
    → terminal_named site (terminal_name site terminal) ≡ Some terminal
terminal-told site terminal apart within =
    let at = at-place site.terminals terminal within in
    ap (λ (o : Option TerminalSpec). terminal_named site (unwrap_or (option_map (λ spec. spec.name) o) [])) at.1
    ∙ found-terminal 0 terminal site.terminals at.0 at.1 apart.terminals ∙ ap Some (omega arith)

pub opener-told : (site : Site) (process opener : ℕ) → TellsNamesApart site → opener < length (openers_of site process)
    → opener_named site process (opener_name site process opener) ≡ Some opener
opener-told site process opener apart within =
    let at = at-place (openers_of site process) opener within in
    ap (λ (o : Option OpenerSpec). opener_named site process
    (unwrap_or (option_map (λ one. who_name site one.who) o) [])) at.1
    ∙ found-opener site 0 opener (openers_of site process) at.0 at.1 (apart.openers process) ∙ ap Some (omega arith)

-- Texts before a sign

pub front-whole : (sign : ℕ) (name rest : List ℕ) → list_any (λ c. nat_eq c sign) name ≡ false
    → front_of (λ c. nat_eq c sign) (name ++ sign ∷ rest) ≡ name
front-whole sign [] rest none =
    ap (λ (b : Bool). cond b [] (sign ∷ front_of (λ c. nat_eq c sign) rest)) (eq-eqb sign sign refl)
front-whole sign (c ∷ name) rest none = by (nat_eq c sign) none (front-whole sign name rest)
  where
    by : (b : Bool) → (b || list_any (λ c. nat_eq c sign) name) ≡ false
        → (list_any (λ c. nat_eq c sign) name ≡ false → front_of (λ c. nat_eq c sign) (name ++ sign ∷ rest) ≡ name)
        → cond b [] (c ∷ front_of (λ c. nat_eq c sign) (name ++ sign ∷ rest)) ≡ c ∷ name
    by true e later = absurd (cc)
    by false e later = ap (λ (xs : List ℕ). c ∷ xs) (later e)

pub back-whole : (sign : ℕ) (name rest : List ℕ) → list_any (λ c. nat_eq c sign) name ≡ false
    → back_of (λ c. nat_eq c sign) (name ++ sign ∷ rest) ≡ sign ∷ rest
back-whole sign [] rest none =
    ap (λ (b : Bool). cond b (sign ∷ rest) (back_of (λ c. nat_eq c sign) rest)) (eq-eqb sign sign refl)
back-whole sign (c ∷ name) rest none = by (nat_eq c sign) none (back-whole sign name rest)
  where
    by : (b : Bool) → (b || list_any (λ c. nat_eq c sign) name) ≡ false
        → (list_any (λ c. nat_eq c sign) name ≡ false
        → back_of (λ c. nat_eq c sign) (name ++ sign ∷ rest) ≡ sign ∷ rest)
        → cond b (c ∷ name ++ sign ∷ rest) (back_of (λ c. nat_eq c sign) (name ++ sign ∷ rest)) ≡ sign ∷ rest
    by true e later = absurd (cc)
    by false e later = later e

pub cut-whole : (sign : ℕ) (name rest : List ℕ) → list_any (λ c. nat_eq c sign) name ≡ false
    → cut_at sign (name ++ sign ∷ rest) ≡ Some (name, rest)
cut-whole sign name rest none =
    ap (λ (back : List ℕ). around_sign (front_of (λ c. nat_eq c sign) (name ++ sign ∷ rest)) back)
    (back-whole sign name rest none)
    ∙ ap (λ (front : List ℕ). Some (front, rest)) (front-whole sign name rest none)

-- Lines

pub as-step : (site : Site) (name : List ℕ) (process : ℕ) → process_named site name ≡ Some process
    → told_by site (codes "A step " ++ name) ≡ Some (told.Act (Step process))
as-step site name process found =
    let line = codes "A step " ++ name in
    ap (λ (o : Option ℕ). or_else (option_map told.Act (or_else (option_map Step o)
    (or_else (take_told site line) (or_else (enter_told site line) (print_told site line))))) (other_told site line))
    found

pub as-take : (site : Site) (name rest : List ℕ) (process opener : ℕ) → list_any (λ c. nat_eq c 32) name ≡ false
    → process_named site name ≡ Some process → opener_named site process rest ≡ Some opener
    → told_by site (codes "A take " ++ name ++ 32 ∷ rest) ≡ Some (told.Act (Take process opener))
as-take site name rest process opener none found there =
    let line = codes "A take " ++ name ++ 32 ∷ rest in
    ap (λ (o : Option (List ℕ × List ℕ)). or_else (option_map told.Act (or_else (option_and_then (take_of site) o)
    (or_else (enter_told site line) (print_told site line)))) (other_told site line)) (cut-whole 32 name rest none)
    ∙ ap (λ (o : Option ℕ). or_else (option_map told.Act
    (or_else (option_and_then (λ one. option_map (Take one) (opener_named site one rest)) o)
    (or_else (enter_told site line) (print_told site line)))) (other_told site line)) found
    ∙ ap (λ (o : Option ℕ). or_else (option_map told.Act (or_else (option_map (Take process) o)
    (or_else (enter_told site line) (print_told site line)))) (other_told site line)) there

pub as-enter : (site : Site) (name : List ℕ) (terminal : ℕ) → terminal_named site name ≡ Some terminal
    → told_by site (codes "A enter " ++ name) ≡ Some (told.Act (Enter terminal))
as-enter site name terminal found =
    let line = codes "A enter " ++ name in
    ap (λ (o : Option ℕ). or_else (option_map told.Act (or_else (option_map Enter o) (print_told site line)))
    (other_told site line)) found

pub as-print : (site : Site) (name : List ℕ) (terminal : ℕ) → terminal_named site name ≡ Some terminal
    → told_by site (codes "A print " ++ name) ≡ Some (told.Act (Print terminal))
as-print site name terminal found =
    let line = codes "A print " ++ name in
    ap (λ (o : Option ℕ). or_else (option_map told.Act (option_map Print o)) (other_told site line)) found

pub process-plain : (site : Site) (process : ℕ) → TellsNamesApart site → process < length site.processes
    → IsPlainName (process_name site process)
process-plain site process apart within =
    let at = at-place site.processes process within in
    subst (λ (o : Option ProcessSpec). IsPlainName (unwrap_or (option_map (λ spec. spec.name) o) [])) (sym at.1)
    (apart.plain_processes process at.0 at.1)

pub terminal-plain : (site : Site) (terminal : ℕ) → TellsNamesApart site → terminal < length site.terminals
    → IsPlainName (terminal_name site terminal)
terminal-plain site terminal apart within =
    let at = at-place site.terminals terminal within in
    subst (λ (o : Option TerminalSpec). IsPlainName (unwrap_or (option_map (λ spec. spec.name) o) [])) (sym at.1)
    (apart.plain_terminals terminal at.0 at.1)

pub opener-whole : (site : Site) (process opener : ℕ) → TellsNamesApart site
    → opener < length (openers_of site process)
    → list_any (λ c. nat_eq c 10) (opener_name site process opener) ≡ false
opener-whole site process opener apart within =
    let at = at-place (openers_of site process) opener within in
    subst (λ (o : Option OpenerSpec). list_any (λ c. nat_eq c 10)
    (unwrap_or (option_map (λ one. who_name site one.who) o) []) ≡ false) (sym at.1)
    (apart.whole_openers process opener at.0 at.1)

pub shifted : (name rest : List ℕ) → name ++ codes " " ++ rest ++ 10 ∷ [] ≡ (name ++ 32 ∷ rest) ++ 10 ∷ []
shifted [] rest = refl
shifted (c ∷ name) rest = ap (λ (xs : List ℕ). c ∷ xs) (shifted name rest)
