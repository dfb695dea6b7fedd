use Rattle.std.proofs.Common.{◌∙◌, List, ap}
use Rattle.tal_tree.specs.declared.site.OpenerSpec.{OpenerSpec}
use Rattle.plain_semantics.specs.Openers.{openers_of}
use Rattle.world_semantics.specs.declared.role.Role.TheVariants.{Acting, Watching}
use Rattle.process_copies.proofs.Beginnings.{Started, process-starts}
use Rattle.process_copies.proofs.starting.start_in.Goals as goal

pub returns : goal.returns
returns c =
    process-starts c.args.site.now c.of.result.value c.args.number c.args.spec.now c.in_ok-openers.openers
    c.in_ok-first.first c.in_ok-second.second c.new.result c.new-2.result _ _
    c.of.ensures (c.in_ok-openers.ensures.openers ∙ ap (openers_of c.args.site.now) c.from.ensures)
    (c.in_ok-first.ensures ∙ ap (λ (all : List OpenerSpec). Started c.args.spec.now all Acting c.args.spec.now.primary)
    c.as_slice.ensures)
    (c.in_ok-second.ensures ∙ ap (λ (all : List OpenerSpec). Started c.args.spec.now all Watching
    c.args.spec.now.backup) c.as_slice-2.ensures)
    c.new.ensures c.new-2.ensures c.in_ok-device.ensures.sectors
    c.in_ok-device.ensures.drives
