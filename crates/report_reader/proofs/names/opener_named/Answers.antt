use Rattle.std.proofs.Common.{[], ap, length, ◌∙◌, arith}
use Rattle.std.specs.Prelude.{slice_get}
use Rattle.std.specs.Option.{unwrap_or}
use Rattle.report_reader.specs.Names.{opener_from}
use Rattle.report_reader.proofs.NameLemmas.{few-at}
use Rattle.report_reader.proofs.names.opener_named.Goals as goal

pub opener_among-requires : goal.opener_among-requires
opener_among-requires c =
    omega (arith, few-at c.args.lists.now c.from.result c.requires.lists.few, ap length c.list_at.ensures)

pub returns : goal.returns
returns c =
    c.opener_among.ensures
    ∙ ap (opener_from c.args.site.now c.args.name.now 0)
    (c.list_at.ensures ∙ ap (λ place. unwrap_or (slice_get c.args.lists.now place) []) c.from.ensures
    ∙ c.requires.lists.each c.args.process)
