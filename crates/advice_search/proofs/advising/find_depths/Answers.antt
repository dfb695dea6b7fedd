use Rattle.std.proofs.Common.{◌≡◌, ◌+◌, ◌++◌, ◌∷◌, [], length, subst, sym, ap, ◌∙◌, arith, length-append}
use Rattle.advice_search.specs.Advising.{AreLeastDepths}
use Rattle.advice_search.proofs.Answering.{none-more, depths-more}
use Rattle.advice_search.proofs.advising.find_depths.Goals as goal

pub loop-file-preserved : goal.loop-file-preserved
loop-file-preserved c =
    let program = c.args.program.now in
    let file = c.loop-file.file in
    let depths = c.loop-file.depths in
    let depth = c.in_ok-find_depth.field-0 in
    let found = c.in_ok-find_depth.ensures.found in
    let pushed = c.in_ok-push.ensures.ok in
    let count : length depths ≡ file = c.loop-file.invariant.2 in (
      none-more program file c.loop-file.invariant.0 found.2,
      subst (AreLeastDepths program) (sym pushed)
          (depths-more program depths file depth count c.loop-file.invariant.1 found.0 found.1),
      (let more : length (depths ++ depth ∷ []) ≡ file + 1 = omega (arith, length-append depths (depth ∷ [])) in
          ap length pushed ∙ more),
      c.in_ok-find_depth.ensures.count,
      c.in_ok-find_depth.ensures.due,
      c.in_ok-find_depth.ensures.clear,
      c.find_depth.ensures.room ∙ c.loop-file.invariant.6,
    )
