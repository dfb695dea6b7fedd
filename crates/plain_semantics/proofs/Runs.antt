-- Acts one after the other.
use Rattle.std.proofs.Common.{◌≡◌, true, is_some, List, [], ◌∷◌, ◌++◌, Option, Some, None, refl, ap, sym, ◌∙◌}
use Rattle.std.proofs.Common.{append_assoc, append-nil}
use Rattle.std.specs.Option.{option_map, option_and_then, unwrap_or}
use Rattle.process_semantics.specs.tal_tree.specs.declared.act.Act.{Act}
use Rattle.process_semantics.specs.tal_tree.specs.declared.act.Shown.{Shown}
use Rattle.process_semantics.specs.tal_tree.specs.declared.site.Site.{Site}
use Rattle.plain_semantics.specs.Machine.{Plain, Made, made, made_before, made_all, made_after, IsPossible, shown_by}
use Rattle.plain_semantics.specs.Machine.{plain_start}

before-nothing : (m : Option Made) → option_map (made_before []) m ≡ m
before-nothing None = refl
before-nothing (Some m) = refl

before-both : (first second : List Shown) (m : Option Made)
    → option_map (made_before first) (option_map (made_before second) m) ≡ option_map (made_before (first ++ second)) m
before-both first second None = refl
before-both first second (Some m) =
    ap (λ shown. Some (record m { shown = shown })) (sym (append_assoc first second m.shown))

rest-after : (site : Site) (second : List Act) (shown : List Shown) (m : Option Made)
    → option_map (made_before shown) (option_and_then (made_after site second) m)
    ≡ option_and_then (made_after site second) (option_map (made_before shown) m)
rest-after site second shown None = refl
rest-after site second shown (Some m) = before-both shown m.shown (made_all site m.plain second)

first-after : (site : Site) (first second : List Act) (act : Option Made)
    → ((plain : Plain) → made_all site plain (first ++ second)
    ≡ option_and_then (made_after site second) (made_all site plain first))
    → option_and_then (made_after site (first ++ second)) act
    ≡ option_and_then (made_after site second) (option_and_then (made_after site first) act)
first-after site first second None follows = refl
first-after site first second (Some m) follows =
    ap (option_map (made_before m.shown)) (follows m.plain)
    ∙ rest-after site second m.shown (made_all site m.plain first)

-- the acts of a list followed by others: what the first leave is what the others begin with
pub made_all-append : (site : Site) (first second : List Act) (plain : Plain)
    → made_all site plain (first ++ second) ≡ option_and_then (made_after site second) (made_all site plain first)
made_all-append site [] second plain = sym (before-nothing (made_all site plain second))
made_all-append site (act ∷ first) second plain =
    first-after site first second (made site plain act) (made_all-append site first second)

one-act : (site : Site) (act : Act) (m : Option Made) → option_and_then (made_after site []) m ≡ m
one-act site act None = refl
one-act site act (Some m) = ap (λ shown. Some (record m { shown = shown })) (append-nil m.shown)

-- one act after others
pub made_all-snoc : (site : Site) (acts : List Act) (act : Act) (plain : Plain) (m : Made)
    → made_all site plain acts ≡ Some m
    → made_all site plain (acts ++ act ∷ []) ≡ option_map (made_before m.shown) (made site m.plain act)
made_all-snoc site acts act plain m came =
    made_all-append site acts (act ∷ []) plain ∙ ap (option_and_then (made_after site (act ∷ []))) came
    ∙ ap (option_map (made_before m.shown)) (one-act site act (made site m.plain act))

possible-front : (second : Made → Option Made) (first : Option Made) → is_some (option_and_then second first) ≡ true
    → is_some first ≡ true
possible-front second None possible = possible
possible-front second (Some m) possible = refl

pub front-possible : (site : Site) (first second : List Act) → IsPossible site (first ++ second) → IsPossible site first
front-possible site first second possible =
    possible-front (made_after site second) (made_all site (plain_start site) first)
    (ap is_some (sym (made_all-append site first second (plain_start site))) ∙ possible)

abbrev shown_in : Option Made → List Shown
shown_in m = unwrap_or (option_map (λ m. m.shown) m) []

shown-more : (site : Site) (second : List Act) (m : Made) (last : Option Made)
    → is_some (option_map (made_before m.shown) last) ≡ true
    → (rest : List Shown) × (shown_in (option_map (made_before m.shown) last) ≡ m.shown ++ rest)
shown-more site second m None possible = absurd (cc)
shown-more site second m (Some last) possible = (last.shown, refl)

shown-front : (site : Site) (second : List Act) (first : Option Made)
    → is_some (option_and_then (made_after site second) first) ≡ true
    → (rest : List Shown) × (shown_in (option_and_then (made_after site second) first) ≡ shown_in first ++ rest)
shown-front site second None possible = absurd (cc)
shown-front site second (Some m) possible = shown-more site second m (made_all site m.plain second) possible

pub shown-begins : (site : Site) (first second : List Act) → IsPossible site (first ++ second)
    → (rest : List Shown) × (shown_by site (first ++ second) ≡ shown_by site first ++ rest)
shown-begins site first second possible =
    let same = made_all-append site first second (plain_start site) in
    let found = shown-front site second (made_all site (plain_start site) first) (ap is_some (sym same) ∙ possible) in
    (found.0, ap shown_in same ∙ found.1)
