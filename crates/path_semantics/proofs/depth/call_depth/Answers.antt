use Rattle.std.proofs.Common.{◌≡◌, ◌+◌, ◌≤◌, ℕ, List, [], ◌∷◌, ◌++◌, length, drop, arith, ap, ap₂, sym, subst, ◌∙◌}
use Rattle.std.specs.Prelude.{slice_get}
use Rattle.std.specs.Option.{unwrap_or}
use Rattle.std.proofs.lemmas.List.{length_push}
use Rattle.tal_tree.specs.declared.statement.Statement.{Statement}
use Rattle.path_semantics.specs.Bounds.{greatest, of_called, depth_from, in_order, depths}
use Rattle.path_semantics.proofs.Deepest.{looked-up, called-at-most, one-deeper, one-more-procedure}
use Rattle.path_semantics.proofs.depth.call_depth.Goals as goal

pub overflow_add-called : goal.overflow_add-called
overflow_add-called c =
    let called : c.deepest-called.result ≡ greatest
    (of_called c.as_slice.result.now c.as_slice-in-loop-procedure.result.now) = c.deepest-called.ensures in
    let most : greatest (of_called c.as_slice.result.now c.as_slice-in-loop-procedure.result.now)
    ≤ greatest c.as_slice.result.now =
    called-at-most c.as_slice.result.now c.as_slice-in-loop-procedure.result.now in
    let known : greatest c.as_slice.result.now ≡ greatest c.loop-procedure.depths.items =
    ap greatest c.as_slice.ensures.value in
    let few : length c.as_slice-procedures.result.now ≡ length c.args.program.now.procedures =
    ap length c.as_slice-procedures.ensures in
    omega arith

pub loop-procedure-preserved : goal.loop-procedure-preserved
loop-procedure-preserved c =
    let depth : c.deepest-called.result + 1 ≡ depth_from c.loop-procedure.depths.items c.procedure-item.result.body =
    ap (λ (n : ℕ). n + 1) (c.deepest-called.ensures
    ∙ ap₂ (λ (before : List ℕ) (body : List Statement). greatest (of_called before body)) c.as_slice.ensures.value
    c.as_slice-in-loop-procedure.ensures) in
    let pushed : c.push.new.self.items ≡ c.loop-procedure.depths.items
    ++ depth_from c.loop-procedure.depths.items c.procedure-item.result.body ∷ [] =
    c.push.ensures.items ∙ ap (λ (n : ℕ). c.loop-procedure.depths.items ++ n ∷ []) depth in
    record {
      leads = subst (λ (before : List ℕ). in_order depth_from before
          (drop (c.loop-procedure.procedure-index + 1) c.as_slice-procedures.result.now) ≡ depths c.args.program.now)
          (sym pushed)
          (one-more-procedure c.loop-procedure.depths.items c.as_slice-procedures.result.now
          c.loop-procedure.procedure-index c.procedure-item.result (depths c.args.program.now)
          c.procedure-item.is c.loop-procedure-test.true c.loop-procedure.invariant.leads);
      count = ap length pushed ∙ length_push c.loop-procedure.depths.items _
          ∙ ap (λ (n : ℕ). n + 1) c.loop-procedure.invariant.count;
      most = subst (λ (before : List ℕ). greatest before ≤ c.loop-procedure.procedure-index + 1) (sym pushed)
          (one-deeper c.loop-procedure.depths.items c.procedure-item.result.body c.loop-procedure.procedure-index
          c.loop-procedure.invariant.most);
    }

pub returns-clause-most : goal.returns-clause-most
returns-clause-most c =
    let found : c.depth_at.result ≡ unwrap_or (slice_get c.as_slice-2.result.now c.args.program.now.main) 0 =
    c.depth_at.ensures in
    let most : unwrap_or (slice_get c.as_slice-2.result.now c.args.program.now.main) 0
    ≤ greatest c.as_slice-2.result.now =
    looked-up c.as_slice-2.result.now c.args.program.now.main in
    let known : greatest c.as_slice-2.result.now ≡ greatest c.loop-procedure.depths.items =
    ap greatest c.as_slice-2.ensures.value in
    let count : length c.as_slice-2.result.now ≡ length c.loop-procedure.depths.items =
    ap length c.as_slice-2.ensures.value in
    omega arith
