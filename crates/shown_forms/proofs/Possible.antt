-- What possible acts show and name, and what stands on sectors after them.
use Rattle.std.proofs.Common.{◌≡◌, ℕ, zero, suc, ◌+◌, ◌&&◌, nat_eq, Bool, true, false, if◌then◌else◌, ℤ}
use Rattle.std.proofs.Common.{List, [], ◌∷◌, is_some, Option, Some, None, refl, subst}
use Rattle.std.proofs.Common.{eqb-true}
use Rattle.std.specs.Option.{option_and_then, option_map, unwrap_or}
use Rattle.std.proofs.lemmas.Bool.{and_parts}
use Rattle.plain_semantics.specs.Machine.{IsPossible, Made, Plain, made, made_all, made_before, plain_start}
use Rattle.plain_semantics.specs.Machine.{shown_by}
use Rattle.shown_sectors.specs.Sectors.{last_written, later_of, sector_count, sector_with, sectors_after, sectors_from}
use Rattle.shown_sectors.specs.Sectors.{sectors_of, written_on}
use Rattle.tal_tree.specs.declared.act.Act.{Act}
use Rattle.tal_tree.specs.declared.act.Shown.{Shown}
use Rattle.tal_tree.specs.declared.act.Shown.TheVariants.{Write, Reply}
use Rattle.tal_tree.specs.declared.site.ProcessSpec.{ProcessSpec}
use Rattle.tal_tree.specs.declared.site.Site.{Site}
use Rattle.told_reports.specs.InForm.{AreEach, IsSectorOf, IsShownOn}
use Rattle.told_reports.specs.NamesApart.{IsNamedAct}
use Rattle.shown_forms.specs.Sites.{IsTellable}
use Rattle.shown_forms.proofs.Lists.{IfSo, append-each}
use Rattle.shown_forms.proofs.Machine.{IsMadeKept, IsPlainKept, begins-kept, made-kept}

-- acts one after the other, if they are possible
abbrev AreMadeKept : Site → List Act → Option Made → Type 0
AreMadeKept site acts None = Unit {0}
AreMadeKept site acts (Some m) = AreEach (IsShownOn site) m.shown × AreEach (IsNamedAct site) acts

rest-made : (site : Site) (act : Act) (acts : List Act) (first : Made) (rest : Option Made)
    → IsMadeKept site act (Some first) → AreMadeKept site acts rest
    → AreMadeKept site (act ∷ acts) (option_map (made_before first.shown) rest)
rest-made site act acts first None one later = tt
rest-made site act acts first (Some last) one later =
    (append-each (IsShownOn site) first.shown last.shown one.1 later.0, (one.2, later.1))

all-made : (site : Site) → IsTellable site → (plain : Plain) → IsPlainKept site plain → (acts : List Act)
    → AreMadeKept site acts (made_all site plain acts)
all-made site tells plain is [] = (tt, tt)
all-made site tells plain is (act ∷ acts) =
    by (λ next kept. all-made site tells next kept acts) (made site plain act) (made-kept site tells plain is act)
  where
    by : ((next : Plain) → IsPlainKept site next → AreMadeKept site acts (made_all site next acts))
        → (o : Option Made) → IsMadeKept site act o
        → AreMadeKept site (act ∷ acts)
        (option_and_then (λ first. option_map (made_before first.shown) (made_all site first.plain acts)) o)
    by later None one = tt
    by later (Some first) one =
        rest-made site act acts first (made_all site first.plain acts) one (later first.plain one.0)

pub shown-formed : (site : Site) (acts : List Act) → IsTellable site → IsPossible site acts
    → AreEach (IsShownOn site) (shown_by site acts)
shown-formed site acts tells possible =
    by (made_all site (plain_start site) acts)
    (all-made site tells (plain_start site) (begins-kept site tells) acts)
  where
    by : (o : Option Made) → AreMadeKept site acts o
        → AreEach (IsShownOn site) (unwrap_or (option_map (λ m. m.shown) o) [])
    by None are = tt
    by (Some m) are = are.0

pub acts-named : (site : Site) (acts : List Act) → IsTellable site → IsPossible site acts
    → AreEach (IsNamedAct site) acts
acts-named site acts tells possible =
    by (made_all site (plain_start site) acts)
    (all-made site tells (plain_start site) (begins-kept site tells) acts) possible
  where
    by : (o : Option Made) → AreMadeKept site acts o → is_some o ≡ true → AreEach (IsNamedAct site) acts
    by None are some = absurd (cc some)
    by (Some m) are some = are.1

-- Sectors

abbrev IsOn : Site → ℕ → ℕ → List ℤ → Type 0
IsOn site process sector words = IsSectorOf site (record { process = process; sector = sector; words = words })

one-written : (site : Site) (process sector : ℕ) (one : Shown) → IsShownOn site one
    → IfSo (IsOn site process sector) (written_on process sector one)
one-written site process sector (Reply terminal number words) is = tt
one-written site process sector (Write there at words) is =
    by ((nat_eq there process) && (nat_eq at sector)) refl
  where
    by : (b : Bool) → ((nat_eq there process) && (nat_eq at sector)) ≡ b
        → IfSo (IsOn site process sector) (if b then Some words else None)
    by true e =
        let parts = and_parts (nat_eq there process) (nat_eq at sector) e in
        subst (λ (p : ℕ). IsOn site p sector words) (eqb-true there process parts.0)
        (subst (λ (s : ℕ). IsOn site there s words) (eqb-true at sector parts.1) is)
    by false e = tt

later-written : (site : Site) (process sector : ℕ) (earlier later : Option (List ℤ))
    → IfSo (IsOn site process sector) earlier → IfSo (IsOn site process sector) later
    → IfSo (IsOn site process sector) (later_of earlier later)
later-written site process sector earlier None first second = first
later-written site process sector earlier (Some words) first second = second

last-is : (site : Site) (process sector : ℕ) (shown : List Shown) → AreEach (IsShownOn site) shown
    → IfSo (IsOn site process sector) (last_written process sector shown)
last-is site process sector [] are = tt
last-is site process sector (one ∷ shown) are =
    later-written site process sector (written_on process sector one) (last_written process sector shown)
    (one-written site process sector one are.0) (last-is site process sector shown are.1)

with-is : (site : Site) (process sector : ℕ) (o : Option (List ℤ)) → IfSo (IsOn site process sector) o
    → AreEach (IsSectorOf site) (sector_with process sector o)
with-is site process sector None is = tt
with-is site process sector (Some words) is = (is, tt)

from-is : (site : Site) (process : ℕ) (shown : List Shown) (sector left : ℕ) → AreEach (IsShownOn site) shown
    → AreEach (IsSectorOf site) (sectors_from process shown sector left)
from-is site process shown sector zero are = tt
from-is site process shown sector (suc left) are =
    append-each (IsSectorOf site) (sector_with process sector (last_written process sector shown))
    (sectors_from process shown (sector + 1) left)
    (with-is site process sector (last_written process sector shown) (last-is site process sector shown are))
    (from-is site process shown (sector + 1) left are)

of-is : (site : Site) (shown : List Shown) (number : ℕ) (specs : List ProcessSpec) → AreEach (IsShownOn site) shown
    → AreEach (IsSectorOf site) (sectors_of shown number specs)
of-is site shown number [] are = tt
of-is site shown number (spec ∷ specs) are =
    append-each (IsSectorOf site) (sectors_from number shown 0 (sector_count spec.what))
    (sectors_of shown (number + 1) specs) (from-is site number shown 0 (sector_count spec.what) are)
    (of-is site shown (number + 1) specs are)

pub sectors-shown : (site : Site) (acts : List Act) → IsTellable site → IsPossible site acts
    → AreEach (IsSectorOf site) (sectors_after site (shown_by site acts))
sectors-shown site acts tells possible =
    of-is site (shown_by site acts) 0 site.processes (shown-formed site acts tells possible)
