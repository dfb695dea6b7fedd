-- A process at its beginning is that of the world at the beginning.
use Rattle.std.proofs.Common.{◌≡◌, ◌∙◌, ℕ, List, [], length, map, ap, ap₂}
use Rattle.tal_tree.specs.declared.site.OpenerSpec.{OpenerSpec}
use Rattle.tal_tree.specs.declared.site.ProcessSpec.{ProcessSpec}
use Rattle.tal_tree.specs.declared.site.Site.{Site}
use Rattle.process_semantics.specs.Process.{start_of}
use Rattle.plain_semantics.specs.Openers.{files_of, openers_of}
use Rattle.world_semantics.specs.checkpoint_image.specs.declared.message.ImageMessage.{ImageMessage}
use Rattle.world_semantics.specs.checkpoint_image.specs.declared.message.TakenMessage.{TakenMessage}
use Rattle.disc_device.specs.Sectors.{Stored}
use Rattle.disc_device.specs.mirror.specs.declared.state.DriveState.{DriveState}
use Rattle.node_copies.specs.machine_states.specs.Drives.{states_at_boot}
use Rattle.world_semantics.specs.declared.role.Role.{Role}
use Rattle.world_semantics.specs.declared.role.Role.TheVariants.{Acting, Watching}
use Rattle.world_semantics.specs.declared.which.Which.TheVariants.{First}
use Rattle.world_semantics.specs.Core.{core_at_boot, core_at_start}
use Rattle.world_semantics.specs.World.{Copy, copy_at_boot, device_at_boot}
use Rattle.node_copies.specs.Seen.{CopyAndDepths}
use Rattle.process_copies.specs.Seen.{Placed}
use Rattle.process_copies.specs.Starting.{placed_at_boot}

-- a copy at the start, with these openers
abbrev pub Started : ProcessSpec → List OpenerSpec → Role → ℕ → CopyAndDepths
Started spec openers role processor = record {
  copy = copy_at_boot role processor (core_at_start (start_of spec.what) (length (files_of spec.what)) openers);
  depths = map (λ (opener : OpenerSpec). opener.depth) openers;
}

copy-starts : (site : Site) (number : ℕ) (spec : ProcessSpec) (openers : List OpenerSpec) (role : Role) (processor : ℕ)
    (one : CopyAndDepths)
    → openers ≡ openers_of site number → one ≡ Started spec openers role processor
    → one.copy ≡ copy_at_boot role processor (core_at_boot site number spec)
copy-starts site number spec openers role processor one all is =
    ap (λ (x : CopyAndDepths). x.copy) is
    ∙ ap (λ (o : List OpenerSpec). copy_at_boot role processor
    (core_at_start (start_of spec.what) (length (files_of spec.what)) o)) all

abbrev Put : Site → ℕ → Copy → Copy → List ImageMessage → List TakenMessage → List Stored
    → List DriveState → Placed
Put site number first second checkpoints takens sectors drives = record {
  site = site;
  number = number;
  pair = record {
    first = first;
    second = second;
    base = 0;
    checkpoints = checkpoints;
    takens = takens;
    sectors = sectors;
    led = First;
  };
  drives = drives;
}

pub process-starts : (site own : Site) (number : ℕ) (spec : ProcessSpec) (openers : List OpenerSpec)
    (first second : CopyAndDepths)
    (checkpoints : List ImageMessage) (takens : List TakenMessage) (sectors : List Stored) (drives : List DriveState)
    → own ≡ site → openers ≡ openers_of site number → first ≡ Started spec openers Acting spec.primary
    → second ≡ Started spec openers Watching spec.backup
    → checkpoints ≡ [] → takens ≡ [] → sectors ≡ device_at_boot spec.what
    → drives ≡ states_at_boot spec.what
    → Put own number first.copy second.copy checkpoints takens sectors drives ≡ placed_at_boot site number spec
process-starts site own number spec openers first second checkpoints takens sectors drives here all one other unsent
    untaken device standing =
    ap (λ (s : Site). Put s number first.copy second.copy checkpoints takens sectors drives) here
    ∙ ap₂ (λ (a b : Copy). Put site number a b checkpoints takens sectors drives)
    (copy-starts site number spec openers Acting spec.primary first all one)
    (copy-starts site number spec openers Watching spec.backup second all other)
    ∙ ap₂ (λ (sent : List ImageMessage) (taken : List TakenMessage). Put site number
    (copy_at_boot Acting spec.primary (core_at_boot site number spec))
    (copy_at_boot Watching spec.backup (core_at_boot site number spec)) sent taken sectors drives) unsent untaken
    ∙ ap₂ (λ (d : List Stored) (s : List DriveState). Put site number
    (copy_at_boot Acting spec.primary (core_at_boot site number spec))
    (copy_at_boot Watching spec.backup (core_at_boot site number spec)) [] [] d s) device standing
