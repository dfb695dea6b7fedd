use Rattle.std.proofs.Common.{◌≡◌, ◌∙◌, ap, map, true, false}
use Rattle.sync_ids.specs.Changes.{fits_change}
use Rattle.sync_ids.specs.Changing.{all_fit, can_hold_after}
use Rattle.sync_ids.specs.Openers.{block_of, depth_of}
use Rattle.sync_ids.specs.Tables.{Remembered}
use Rattle.sync_ids.proofs.Putting.{fits-else, fits-then}
use Rattle.sync_ids.proofs.receive.Receive.fits_change.Goals as goal

pub returns-then-all_fit : goal.returns-then-all_fit
returns-then-all_fit c =
    let now = c.deref.ensures.value in
    let again = c.deref-then-all_fit.ensures.value in
    let changes = c.as_slice-changes.ensures in
    let fit = c.all_fit.ensures in
    let yes = c.if-all_fit.true in
    let held = c.can_hold_after.ensures in
    let all : all_fit (map depth_of c.self.inside.openers.items) (map block_of c.self.inside.openers.items) 0
    c.args.change.now.changes ≡ true = cc in
    let first : c.can_hold_after.result ≡ can_hold_after (map depth_of c.self.inside.openers.items)
    (map block_of c.self.inside.openers.items) c.args.change.now.changes c.args.change.now.in_hand = cc in
    first ∙ fits-then c.self.inside.openers.items c.self.inside.in_hand c.args.change.now c.self.invariant all
    ∙ ap (λ (r : Remembered). fits_change r c.args.change.now) c.self.view_is

pub returns-else-all_fit : goal.returns-else-all_fit
returns-else-all_fit c =
    let now = c.deref.ensures.value in
    let changes = c.as_slice-changes.ensures in
    let fit = c.all_fit.ensures in
    let no = c.if-all_fit.false in
    let none : all_fit (map depth_of c.self.inside.openers.items) (map block_of c.self.inside.openers.items) 0
    c.args.change.now.changes ≡ false = cc in
    no ∙ fits-else c.self.inside.openers.items c.self.inside.in_hand c.args.change.now c.self.invariant none
    ∙ ap (λ (r : Remembered). fits_change r c.args.change.now) c.self.view_is
