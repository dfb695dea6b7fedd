use Rattle.std.proofs.Common.{◌≡◌, ℕ, ◌+◌, List, length, ap, subst, sym, ◌∙◌}
use Rattle.std.proofs.lemmas.List.{length_push}
use Rattle.path_semantics.specs.Bounds.{sizes, told}
use Rattle.tal_tree.specs.Rows.{rows}
use Rattle.tal_tree.specs.declared.statement.Statement.{Statement}
use Rattle.flow_paths.specs.Layout.{size_row, size_at}
use Rattle.flow_paths.proofs.Told.{TellsSizes, one-more-told}
use Rattle.flow_paths.proofs.size.sizes.Goals as goal

pub loop-procedure-preserved : goal.loop-procedure-preserved
loop-procedure-preserved c =
    let size : c.size_of_all-size.result ≡ told
    (size_row (size_at c.loop-procedure.sizes.items) (rows c.procedure-item.result.body)) =
    c.size_of_all-size.ensures
    ∙ ap (λ (known : List ℕ). told (size_row (size_at known) (rows c.as_slice-in-loop-procedure.result.now)))
    c.as_slice.ensures.value
    ∙ ap (λ (body : List Statement). told (size_row (size_at c.loop-procedure.sizes.items) (rows body)))
    c.as_slice-in-loop-procedure.ensures in
    record {
      leads = subst (TellsSizes c.as_slice-procedures.result.now (c.loop-procedure.procedure-index + 1)
          (sizes c.args.program.now)) (sym c.push.ensures.items)
          (one-more-told c.as_slice-procedures.result.now c.loop-procedure.procedure-index (sizes c.args.program.now)
          c.loop-procedure.sizes.items c.procedure-item.result
          c.size_of_all-size.result c.procedure-item.is c.loop-procedure-test.true size
          c.loop-procedure.invariant.leads);
      count = ap length c.push.ensures.items ∙ length_push c.loop-procedure.sizes.items c.size_of_all-size.result
          ∙ ap (λ (n : ℕ). n + 1) c.loop-procedure.invariant.count;
    }
