use Rattle.std.proofs.Common.{◌∙◌, List, Option, ap}
use Rattle.tal_tree.specs.declared.site.Who.TheVariants as who
use Rattle.plain_semantics.specs.declared.slot.Opener.{Opener}
use Rattle.plain_semantics.specs.Openers.{opener_of}
use Rattle.node_copies.specs.Acting.{opener_among}
use Rattle.node_copies.proofs.FileRows.{file-opener}
use Rattle.process_copies.specs.Seen.{Placed}
use Rattle.process_copies.proofs.copies.ProcessCopies.opener_of_file.Goals as goal

pub returns : goal.returns
returns c =
    c.address_in.ensures
    ∙ ap (λ (files : List (Option Opener)). opener_among files c.args.file) (c.as_slice.ensures ∙ c.self.invariant.1)
    ∙ file-opener c.self.inside.site.value c.self.inside.number c.args.file
    ∙ ap (λ (one : Placed). opener_of one.site (who.File one.number c.args.file)) c.self.view_is
