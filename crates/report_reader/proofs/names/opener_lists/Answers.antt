use Rattle.std.proofs.Common.{◌∙◌, ap}
use Rattle.report_reader.specs.Names.{opener_lists}
use Rattle.report_reader.proofs.NameLemmas.{are-openers}
use Rattle.report_reader.proofs.names.opener_lists.Goals as goal

pub returns : goal.returns
returns c =
    are-openers c.args.site.now c.in_ok-lists.lists
    (c.in_ok-lists.ensures.lists ∙ ap (opener_lists c.args.site.now 0) c.as_slice.ensures) c.in_ok-lists.ensures.few
