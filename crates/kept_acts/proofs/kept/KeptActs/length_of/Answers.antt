use Rattle.std.proofs.Common.{rules, ◌<◌, ◌∙◌, ℕ, List, length, slice_index_or, sym, ap, subst}
use Rattle.tal_tree.specs.declared.act.Act.{Act}
use Rattle.world_semantics.specs.Kept.{own_acts}
use Rattle.kept_acts.proofs.Tables.{within, read}
use Rattle.kept_acts.proofs.kept.KeptActs.length_of.Goals as goal

pub bounds-table-from : goal.bounds-table-from
bounds-table-from c =
    let few : c.from.result < 256 = search rules in
    subst (λ (t : List ℕ). c.from.result < length t) (sym c.as_slice-table.ensures.value)
    (within c.self.inside.table.items c.self.inside.acts c.self.invariant c.from.result few)

pub returns : goal.returns
returns c =
    let few : c.from.result < 256 = search rules in
    ap (λ (t : List ℕ). slice_index_or t c.from.result 0) c.as_slice-table.ensures.value
    ∙ read c.self.inside.table.items c.self.inside.acts c.self.invariant c.from.result few
    ∙ ap (λ (n : ℕ). own_acts n c.self.inside.acts) c.from.ensures
    ∙ ap (λ (acts : List Act). own_acts c.args.process acts) c.self.view_is
