-- How many marks can still be made: each mark leaves one fewer, and a reload at most one more for each node. A
-- processor is loaded again so often at most, so marks are few.
use Rattle.std.proofs.Common.{◌≡◌, ◌≤◌, ◌<◌, ◌⊎◌, inl, inr, ℕ, zero, suc, ◌+◌, ◌*◌, ◌==◌, ◌&&◌, ◌||◌, Bool, true, false}
use Rattle.std.proofs.Common.{List, [], ◌∷◌, ◌-◌, ◌∙◌, ◌≢◌, not, cond, replicate, slice_get, slice_set, Some, refl, ap}
use Rattle.std.proofs.Common.{sym, subst, arith, eq-eqb, eq-or-lt_of_le, suc-mul}
use Rattle.std.proofs.lemmas.Bool.{eqb-true, eqb-false}
use Rattle.world_semantics.specs.Rules.{most_reloads, without_downs}
use Rattle.world_semantics.specs.World.{Down, has_marked}
use Rattle.world_semantics.proofs.Lists.{some-same}

-- a processor isn't marked by a node
abbrev open_mark : Bool → ℕ
open_mark true = 0
open_mark false = 1

-- of so many processors those that a node hasn't marked
abbrev unmarked_by : List Down → ℕ → ℕ → ℕ
unmarked_by downs node zero = 0
unmarked_by downs node (suc processor) = open_mark (has_marked downs node processor) + unmarked_by downs node processor

-- of so many nodes, and so many processors
abbrev unmarked : List Down → ℕ → ℕ → ℕ
unmarked downs processors zero = 0
unmarked downs processors (suc node) = unmarked_by downs node processors + unmarked downs processors node

or-falls : (one other : Bool) → open_mark (one || other) ≤ open_mark other
or-falls true other = omega arith
or-falls false other = omega arith

by-falls : (mark : Down) (downs : List Down) (node processors : ℕ)
    → unmarked_by (mark ∷ downs) node processors ≤ unmarked_by downs node processors
by-falls mark downs node zero = omega arith
by-falls mark downs node (suc processor) =
    let one = or-falls (mark.node == node && mark.down == processor) (has_marked downs node processor) in
    let rest = by-falls mark downs node processor in
    omega (arith, one, rest)

falls : (mark : Down) (downs : List Down) (processors nodes : ℕ)
    → unmarked (mark ∷ downs) processors nodes ≤ unmarked downs processors nodes
falls mark downs processors zero = omega arith
falls mark downs processors (suc node) =
    let one = by-falls mark downs node processors in
    let rest = falls mark downs processors node in
    omega (arith, one, rest)

now-marked : (mark : Down) (downs : List Down) → has_marked (mark ∷ downs) mark.node mark.down ≡ true
now-marked mark downs = rw (eq-eqb mark.node mark.node refl, eq-eqb mark.down mark.down refl) refl

by-less : (mark : Down) (downs : List Down) (processors : ℕ) → mark.down < processors
    → has_marked downs mark.node mark.down ≡ false
    → unmarked_by (mark ∷ downs) mark.node processors + 1 ≤ unmarked_by downs mark.node processors
by-less mark downs zero low new = absurd (omega (arith, low))
by-less mark downs (suc processor) low new = by (eq-or-lt_of_le low) (by-less mark downs processor)
  where
    by : (suc mark.down ≡ suc processor) ⊎ (suc mark.down < suc processor)
        → (mark.down < processor → has_marked downs mark.node mark.down ≡ false
        → unmarked_by (mark ∷ downs) mark.node processor + 1 ≤ unmarked_by downs mark.node processor)
        → unmarked_by (mark ∷ downs) mark.node (suc processor) + 1 ≤ unmarked_by downs mark.node (suc processor)
    by (inl is) less =
        let same : mark.down ≡ processor = omega (arith, is) in
        let before = ap open_mark (subst (λ p. has_marked downs mark.node p ≡ false) same new) in
        let after = ap open_mark (subst (λ p. has_marked (mark ∷ downs) mark.node p ≡ true) same
        (now-marked mark downs)) in
        let rest = by-falls mark downs mark.node processor in
        omega (arith, before, after, rest)
    by (inr is) less =
        let rest = less (omega (arith, is)) new in
        let one = or-falls (mark.node == mark.node && mark.down == processor) (has_marked downs mark.node processor) in
        omega (arith, rest, one)

-- a mark that wasn't made leaves one fewer
downs-less : (mark : Down) (downs : List Down) (processors nodes : ℕ) → mark.node < nodes → mark.down < processors
    → has_marked downs mark.node mark.down ≡ false
    → unmarked (mark ∷ downs) processors nodes + 1 ≤ unmarked downs processors nodes
downs-less mark downs processors zero low down new = absurd (omega (arith, low))
downs-less mark downs processors (suc node) low down new =
    by (eq-or-lt_of_le low) (downs-less mark downs processors node)
  where
    by : (suc mark.node ≡ suc node) ⊎ (suc mark.node < suc node)
        → (mark.node < node → mark.down < processors → has_marked downs mark.node mark.down ≡ false
        → unmarked (mark ∷ downs) processors node + 1 ≤ unmarked downs processors node)
        → unmarked (mark ∷ downs) processors (suc node) + 1 ≤ unmarked downs processors (suc node)
    by (inl is) less =
        let same : mark.node ≡ node = omega (arith, is) in
        let one = subst (λ n. unmarked_by (mark ∷ downs) n processors + 1 ≤ unmarked_by downs n processors) same
        (by-less mark downs processors down new) in
        let rest = falls mark downs processors node in
        omega (arith, one, rest)
    by (inr is) less =
        let rest = less (omega (arith, is)) down new in
        let one = by-falls mark downs node processors in
        omega (arith, rest, one)

by-most : (downs : List Down) (node processors : ℕ) → unmarked_by downs node processors ≤ processors
by-most downs node zero = omega arith
by-most downs node (suc processor) =
    let one = most (has_marked downs node processor) in
    let rest = by-most downs node processor in
    omega (arith, one, rest)
  where
    most : (test : Bool) → open_mark test ≤ 1
    most true = omega arith
    most false = omega arith

all-most : (downs : List Down) (processors nodes : ℕ) → unmarked downs processors nodes ≤ nodes * processors
all-most downs processors zero = omega arith
all-most downs processors (suc node) =
    let one = by-most downs node processors in
    let rest = all-most downs processors node in
    let times = suc-mul node processors in
    omega (arith, one, rest, times)

-- Reloads

-- a reload of a processor takes away no mark of another one
still-marked : (x node processor : ℕ) → processor ≢ x → (downs : List Down)
    → has_marked (without_downs x downs) node processor ≡ has_marked downs node processor
still-marked x node processor other [] = refl
still-marked x node processor other (mark ∷ downs) =
    by (mark.down == x) refl (still-marked x node processor other downs)
  where
    by : (same : Bool) → (mark.down == x) ≡ same
        → has_marked (without_downs x downs) node processor ≡ has_marked downs node processor
        → has_marked (cond (not same) (mark ∷ without_downs x downs) (without_downs x downs)) node processor
        ≡ has_marked (mark ∷ downs) node processor
    by false is rest = ap (λ is_marked. (mark.node == node && mark.down == processor) || is_marked) rest
    by true is rest = rest ∙ sym (away (mark.node == node) (mark.down == processor) refl)
      where
        away : (here there : Bool) → (mark.down == processor) ≡ there
            → ((here && there) || has_marked downs node processor) ≡ has_marked downs node processor
        away true false is_there = refl
        away false there is_there = refl
        away true true is_there =
            absurd (other (sym (eqb-true mark.down processor is_there) ∙ eqb-true mark.down x is))

some-open : (test : Bool) → open_mark test ≤ 1
some-open true = omega arith
some-open false = omega arith

-- below it nothing changes
by-same : (x node : ℕ) (downs : List Down) (processors : ℕ) → processors ≤ x
    → unmarked_by (without_downs x downs) node processors ≡ unmarked_by downs node processors
by-same x node downs zero low = refl
by-same x node downs (suc processor) low =
    let one = ap open_mark (still-marked x node processor (λ same. absurd (omega (arith, low, same))) downs) in
    let rest = by-same x node downs processor (omega (arith, low)) in
    omega (arith, one, rest)

by-reloaded : (x node : ℕ) (downs : List Down) (processors : ℕ)
    → unmarked_by (without_downs x downs) node processors ≤ unmarked_by downs node processors + 1
by-reloaded x node downs zero = omega arith
by-reloaded x node downs (suc processor) = by (processor == x) refl (by-reloaded x node downs processor)
  where
    by : (same : Bool) → (processor == x) ≡ same
        → unmarked_by (without_downs x downs) node processor ≤ unmarked_by downs node processor + 1
        → unmarked_by (without_downs x downs) node (suc processor) ≤ unmarked_by downs node (suc processor) + 1
    by true is rest =
        let low = eqb-true processor x is in
        let one = some-open (has_marked (without_downs x downs) node processor) in
        let below = by-same x node downs processor (omega (arith, low)) in
        omega (arith, one, below)
    by false is rest =
        let one = ap open_mark (still-marked x node processor (eqb-false processor x is) downs) in
        omega (arith, one, rest)

all-reloaded : (x : ℕ) (downs : List Down) (processors nodes : ℕ)
    → unmarked (without_downs x downs) processors nodes ≤ unmarked downs processors nodes + nodes
all-reloaded x downs processors zero = omega arith
all-reloaded x downs processors (suc node) =
    let one = by-reloaded x node downs processors in
    let rest = all-reloaded x downs processors node in
    omega (arith, one, rest)

-- how often processors can be loaded again that were loaded so often
abbrev reloads_left : List ℕ → ℕ
reloads_left [] = 0
reloads_left (times ∷ reloads) = (most_reloads - times) + reloads_left reloads

one-reload : (reloads : List ℕ) (processor times : ℕ) → slice_get reloads processor ≡ Some times
    → times < most_reloads → reloads_left (slice_set reloads processor (times + 1)) + 1 ≤ reloads_left reloads
one-reload [] processor times there few = absurd (cc)
one-reload (one ∷ reloads) zero times there few = let same = some-same there in omega (arith, same, few)
one-reload (one ∷ reloads) (suc processor) times there few =
    let rest = one-reload reloads processor times there few in omega (arith, rest)

all-reloads : (processors : ℕ) → reloads_left (replicate processors 0) ≡ processors * most_reloads
all-reloads zero = omega arith
all-reloads (suc processors) =
    let rest = all-reloads processors in let times = suc-mul processors most_reloads in omega (arith, rest, times)

both-less : (after before left : ℕ) → after + 1 ≤ before → after + left + 1 ≤ before + left
both-less after before left less = omega (arith, less)

both-reloaded : (after before left later : ℕ) → after ≤ before + 256 → later + 1 ≤ left
    → after + 256 * later ≤ before + 256 * left
both-reloaded after before left later more fewer = omega (arith, more, fewer)

both-most : (downs left processors : ℕ) → downs ≤ 65536 → left ≡ processors * most_reloads → processors ≤ 255
    → downs + 256 * left ≤ 8356096
both-most downs left processors most all few = omega (arith, most, all, few)

-- of 256 nodes and as many processors, with those that reloads make room for
pub left_marks : List Down → List ℕ → ℕ
left_marks downs reloads = unmarked downs 256 256 + 256 * reloads_left reloads

pub left-less : (mark : Down) (downs : List Down) (reloads : List ℕ) → mark.node < 256 → mark.down < 256
    → has_marked downs mark.node mark.down ≡ false
    → left_marks (mark ∷ downs) reloads + 1 ≤ left_marks downs reloads
unfolding left_marks
left-less mark downs reloads node down new =
    both-less (unmarked (mark ∷ downs) 256 256) (unmarked downs 256 256) (256 * reloads_left reloads)
    (downs-less mark downs 256 256 node down new)

pub left-reloaded : (x times : ℕ) (downs : List Down) (reloads : List ℕ) → slice_get reloads x ≡ Some times
    → times < most_reloads
    → left_marks (without_downs x downs) (slice_set reloads x (times + 1)) ≤ left_marks downs reloads
unfolding left_marks
left-reloaded x times downs reloads there few =
    both-reloaded (unmarked (without_downs x downs) 256 256) (unmarked downs 256 256) (reloads_left reloads)
    (reloads_left (slice_set reloads x (times + 1))) (all-reloaded x downs 256 256)
    (one-reload reloads x times there few)

pub left-most : (downs : List Down) (processors : ℕ) → processors ≤ 255
    → left_marks downs (replicate processors 0) ≤ 8356096
unfolding left_marks
left-most downs processors few =
    both-most (unmarked downs 256 256) (reloads_left (replicate processors 0)) processors (all-most downs 256 256)
    (all-reloads processors) few
