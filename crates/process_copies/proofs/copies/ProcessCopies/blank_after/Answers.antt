use Rattle.std.proofs.Common.{◌≡◌, ◌<◌, ◌≤◌, ℕ, List, Some, length, slice_get, ap, ap₂, sym, subst, subst₂, ◌∙◌}
use Rattle.std.specs.List.{All}
use Rattle.std.proofs.lemmas.Option.{slice_get-get_or}
use Rattle.tal_tree.specs.declared.site.OpenerSpec.{OpenerSpec}
use Rattle.tal_tree.specs.declared.site.ProcessSpec.{ProcessSpec}
use Rattle.tal_tree.specs.declared.site.Site.{Site}
use Rattle.plain_semantics.specs.Openers.{openers_of}
use Rattle.plain_semantics.specs.SiteLimits.{KeepsSiteLimits}
use Rattle.plain_semantics.proofs.Few.{openers-few}
use Rattle.node_copies.specs.sync_ids.specs.Tables.{IsDepth}
use Rattle.process_copies.specs.Seen.{Placed}
use Rattle.process_copies.specs.Starting.{HasDepths}
use Rattle.process_copies.proofs.Blanks.{blank-is}
use Rattle.process_copies.proofs.Depths.{openers-deep}
use Rattle.process_copies.proofs.copies.ProcessCopies.blank_after.Goals as goal

pub blank-requires-clause-few_openers : goal.blank-requires-clause-few_openers
blank-requires-clause-few_openers c =
    let all : c.as_slice-openers.result.now ≡ openers_of c.args.self.now.site c.args.self.now.number =
    c.as_slice-openers.ensures ∙ c.self.invariant.0
    ∙ ap (λ (placed : Placed). openers_of placed.site placed.number) c.self.view_is in
    subst (λ (openers : List OpenerSpec). length openers ≤ 144) (sym all)
    (openers-few c.args.self.now.site c.args.self.now.number
    (subst KeepsSiteLimits c.requires.site c.requires.startable.limits))

pub blank-requires-clause-depths : goal.blank-requires-clause-depths
blank-requires-clause-depths c =
    let all : c.as_slice-openers.result.now ≡ openers_of c.args.self.now.site c.args.self.now.number =
    c.as_slice-openers.ensures ∙ c.self.invariant.0
    ∙ ap (λ (placed : Placed). openers_of placed.site placed.number) c.self.view_is in
    subst (λ (openers : List OpenerSpec). All (λ (opener : OpenerSpec). IsDepth opener.depth) openers) (sym all)
    (openers-deep c.args.self.now.site c.args.self.now.number
    (subst (λ (site : Site). All (λ (spec : ProcessSpec). HasDepths spec.what) site.processes) c.requires.site
    c.requires.startable.depths))

pub returns : goal.returns
returns c =
    let all : c.as_slice-openers.result.now ≡ openers_of c.args.self.now.site c.args.self.now.number =
    c.as_slice-openers.ensures ∙ c.self.invariant.0
    ∙ ap (λ (placed : Placed). openers_of placed.site placed.number) c.self.view_is in
    let number : c.from.result ≡ c.args.self.now.number =
    c.from.ensures ∙ ap (λ (placed : Placed). placed.number) c.self.view_is in
    let within : c.from.result < length c.as_slice.result.now =
    subst₂ (λ (n : ℕ) (specs : List ProcessSpec). n < length specs) (sym number) (sym c.as_slice.ensures)
    c.requires.there in
    let found : slice_get c.as_slice.result.now c.from.result ≡ Some c.index-as_slice-from.result =
    slice_get-get_or c.as_slice.result.now c.from.result c.index-as_slice-from.result within
    ∙ ap (λ (spec : ProcessSpec). Some spec) (sym c.index-as_slice-from.is) in
    let there : slice_get c.args.self.now.site.processes c.args.self.now.number
    ≡ Some c.index-as_slice-from.result =
    sym (ap₂ (λ (specs : List ProcessSpec) (n : ℕ). slice_get specs n)
    (c.as_slice.ensures ∙ ap (λ (site : Site). site.processes) c.requires.site) number) ∙ found in
    blank-is c.args.self.now c.args.processor c.args.era c.index-as_slice-from.result c.as_slice-openers.result.now
    c.in_ok-one.one there all c.in_ok-one.ensures
