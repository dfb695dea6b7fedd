use Rattle.std.proofs.Common.{◌≡◌, ◌<◌, ◌+◌, ◌++◌, ◌∙◌, ℕ, Bool, false, List, length, map, take, drop, ap, ap₂, sym}
use Rattle.std.proofs.Common.{get_or, replicate, set, arith}
use Rattle.std.proofs.lemmas.List.{get_or-replicate, set-get_or}
use Rattle.alive_regroup.specs.declared.neighbour.Neighbour.{Neighbour}
use Rattle.alive_regroup.specs.declared.neighbour.Neighbour.TheVariants.{Absent}
use Rattle.alive_regroup.specs.Watching.{is_silent, neighbour_after_check}
use Rattle.alive_regroup.proofs.Mapped.{at-seam, first-at-seam, mapped-all, mapped-in-place, mapped-more, mapped-twice}
use Rattle.alive_regroup.proofs.watch.check_all.Goals as goal
use Rattle.alive_regroup.proofs.watch.check_all.Goals.{then-check, else-check}

abbrev silent : Neighbour → Bool
silent one = is_silent (neighbour_after_check one)

abbrev told : List Neighbour → ℕ → List Bool
told xs k = map silent (take k xs) ++ drop k (replicate 16 false)

-- it was noted whether one more is silent
noted : (xs : List Neighbour) (k : ℕ) (before after : List Bool) (is : Bool) → k < length xs → k < 16
    → before ≡ told xs k → is ≡ silent (get_or xs k Absent) → after ≡ set before k is → after ≡ told xs (k + 1)
noted xs k before after is within small same found now =
    now ∙ ap₂ (λ items one. set items k one) same found
    ∙ mapped-more silent xs (replicate 16 false) k Absent within small

-- which changes nothing if it isn't
unchanged : (xs : List Neighbour) (k : ℕ) (before : List Bool) → k < length xs → k < 16 → before ≡ told xs k
    → before ≡ set before k false
unchanged xs k before within small same =
    sym (set-get_or before k false)
    ∙ ap (set before k) (ap (λ items. get_or items k false) same
    ∙ first-at-seam silent xs (replicate 16 false) k false within small ∙ get_or-replicate 16 k false false small)

pub loop-place-preserved : goal.loop-place-preserved
loop-place-preserved c =
    let xs : List Neighbour = c.args.neighbours.now in
    let k : ℕ = c.loop-place.place in
    let within : k < length xs = omega (arith, c.told-neighbours, c.loop-place-test.true) in
    let found : c.check.result ≡ silent (get_or xs k Absent) =
    c.check.ensures.silent ∙ ap (λ items. silent (get_or items k Absent)) c.loop-place.invariant.0
    ∙ ap silent (at-seam neighbour_after_check xs k Absent within) in (
      ap (set c.loop-place.neighbours k) c.check.ensures.after
          ∙ ap (λ items. set items k (neighbour_after_check (get_or items k Absent))) c.loop-place.invariant.0
          ∙ mapped-in-place neighbour_after_check xs k Absent within,
      elim c.if-check.branch [
        | then-check w ↦
            noted xs k c.loop-place.members c.if-check.members c.check.result within c.loop-place-test.true
            c.loop-place.invariant.1 found (w.members-is ∙ ap (set c.loop-place.members k) (sym w.if-check.true))
        | else-check w ↦
            noted xs k c.loop-place.members c.if-check.members c.check.result within c.loop-place-test.true
            c.loop-place.invariant.1 found
            (w.members-is ∙ unchanged xs k c.loop-place.members within c.loop-place-test.true c.loop-place.invariant.1
            ∙ ap (set c.loop-place.members k) (sym w.if-check.false))
      ],
    )

pub returns-clause-silent : goal.returns-clause-silent
returns-clause-silent c =
    c.loop-place.invariant.1
    ∙ mapped-all silent c.args.neighbours.now (replicate 16 false) c.loop-place.place
    (omega (arith, c.told-neighbours, c.loop-place-test.false)) (omega (arith, c.loop-place-test.false))
    ∙ mapped-twice neighbour_after_check is_silent c.args.neighbours.now
