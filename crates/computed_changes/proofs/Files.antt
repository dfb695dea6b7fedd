-- Each copy in a run has a next number for each file of its process.
use Rattle.std.proofs.Common.{◌≡◌, inl, inr, ℕ, zero, suc, ◌+◌, ◌<◌, true, List, [], ◌∷◌, length, Some, is_some}
use Rattle.std.proofs.Common.{slice_get, slice_set, refl, subst, ◌∙◌}
use Rattle.std.specs.Cmp.Derive.{both_true}
use Rattle.std.proofs.lemmas.Bool.{lt-ltb}
use Rattle.std.proofs.lemmas.List.{length-replicate, length-set}
use Rattle.tal_tree.specs.gd_words.specs.Members.{IsAmong}
use Rattle.tal_tree.specs.declared.site.Site.{Site}
use Rattle.tal_tree.specs.declared.site.ProcessSpec.{ProcessSpec}
use Rattle.tal_tree.specs.declared.site.OpenerSpec.{OpenerSpec}
use Rattle.schedule.specs.declared.event.Event.{Event}
use Rattle.world_semantics.specs.process_semantics.specs.Image.{state_from_words}
use Rattle.world_semantics.specs.plain_semantics.specs.Openers.{files_of}
use Rattle.world_semantics.specs.checkpoint_image.specs.declared.message.FileNumber.{FileNumber}
use Rattle.world_semantics.specs.checkpoint_image.specs.declared.message.Image.{Image}
use Rattle.world_semantics.specs.checkpoint_image.specs.declared.message.ImageMessage.{ImageMessage}
use Rattle.world_semantics.specs.Core.{Core, Deed, Advances, goes, checkpoints, takes, asks, gets, answers, acts}
use Rattle.world_semantics.specs.Core.{next_on}
use Rattle.world_semantics.specs.Core.{with_files, put_in}
use Rattle.world_semantics.specs.declared.which.Which.{Which}
use Rattle.world_semantics.specs.declared.which.Which.TheVariants.{First, Second}
use Rattle.world_semantics.specs.World.{Copy, Pair, World, copy_of, pair_at_boot, pairs_at_boot}
use Rattle.world_semantics.specs.Messages.{Sending, Cause}
use Rattle.world_semantics.specs.Rules.{Change, new_core}
use Rattle.world_semantics.specs.Follows.{IsRun}
use Rattle.world_semantics.proofs.Hands.{map-some}
use Rattle.world_semantics.proofs.Lists.{some-same}
use Rattle.world_semantics.proofs.Runs.{holds-on}
use Rattle.world_semantics.proofs.Becoming as becoming
use Rattle.world_semantics.proofs.Becoming.{Becomes, change-was}
use Rattle.computed_changes.specs.Fitting.{are_files}

advances-length : {openers : List OpenerSpec} {core next : Core} {deed : Deed} → Advances openers core deed next
    → length next.next ≡ length core.next
advances-length (goes p) = refl
advances-length (checkpoints p) = refl
advances-length (takes block p there) = refl
advances-length {core = core} (asks {file = file} p f w) = length-set core.next file (next_on core file + 1)
advances-length (gets p f) = refl
advances-length (answers opener block p held opens there w) = refl
advances-length (acts p c) = refl

with-length : (files : List FileNumber) (next : List ℕ) → length (with_files files next) ≡ length next
with-length [] next = refl
with-length (named ∷ files) next =
    with-length files (slice_set next named.file named.next) ∙ length-set next named.file named.next

put-length : (core applied : Core) (image : Image) → put_in core image ≡ Some applied
    → length applied.next ≡ length core.next
put-length core applied image e =
    map-some _ (λ (one : Core). length one.next ≡ length core.next)
    (state_from_words core.state (is_some image.receive.in_hand) image.body) applied
    (λ s r. with-length image.files core.next) e

begun-length : (site : Site) (number : ℕ) (spec : ProcessSpec) (core : Core)
    → slice_get site.processes number ≡ Some spec
    → length (new_core site number (slice_get site.processes number) core).next ≡ length (files_of spec.what)
begun-length site number spec core named = rw named (length-replicate (length (files_of spec.what)) 1)

becomes-length : {site : Site} {w : World} {number : ℕ} {pair : Pair} {sent : List ImageMessage} {k : Which}
    {cause : Cause} {after : Copy}
    → Becomes site w number pair sent k cause after → (spec : ProcessSpec)
    → slice_get site.processes number ≡ Some spec
    → length (copy_of k pair).core.next ≡ length (files_of spec.what)
    → length after.core.next ≡ length (files_of spec.what)
becomes-length becoming.stays spec named ok = ok
becomes-length (becoming.acts r c a e fr) spec named ok = advances-length a ∙ ok
becomes-length (becoming.sends r p i) spec named ok = ok
becomes-length (becoming.passes r) spec named ok = ok
becomes-length (becoming.ends r) spec named ok = ok
becomes-length {pair = pair} {k = k} (becoming.applies {applied = applied} message r i e n a) spec named ok =
    put-length (copy_of k pair).core applied message.image a ∙ ok
becomes-length (becoming.is_told taken r s i e n) spec named ok = ok
becomes-length becoming.is_freed spec named ok = ok
becomes-length becoming.needs_less spec named ok = ok
becomes-length (becoming.hears request r) spec named ok = ok
becomes-length (becoming.hears_early request r) spec named ok = ok
becomes-length (becoming.stops processor) spec named ok = ok
becomes-length (becoming.takes_over node processor t) spec named ok = ok
becomes-length {site = site} {number = number} {pair = pair} (becoming.is_blank processor here was) spec named ok =
    begun-length site number spec pair.first.core named
becomes-length (becoming.renews processor there) spec named ok = ok

abbrev AllNumbered : Site → World → Type 0
AllNumbered site w =
    (number : ℕ) (pair : Pair) (spec : ProcessSpec) (k : Which) → slice_get w.processes number ≡ Some pair
    → slice_get site.processes number ≡ Some spec
    → length (copy_of k pair).core.next ≡ length (files_of spec.what)

change-numbered : {site : Site} (w next : World) (cause : Cause) (sendings : List Sending)
    → Change site w cause sendings next → AllNumbered site w
    → AllNumbered site next
change-numbered w next cause sendings c ok number after spec k now named =
    let was = change-was w next cause sendings c number after now in
    becomes-length (was.copies k) spec named (ok number was.before spec k was.there named)

begin-numbered : (site : Site) (from : ℕ) (specs : List ProcessSpec) (number : ℕ) (pair : Pair) (spec : ProcessSpec)
    (k : Which)
    → slice_get (pairs_at_boot site from specs) number ≡ Some pair → slice_get specs number ≡ Some spec
    → length (copy_of k pair).core.next ≡ length (files_of spec.what)
begin-numbered site from [] number pair spec k e named = absurd (cc)
begin-numbered site from (one ∷ specs) zero pair spec k e named =
    subst (λ (p : Pair). length (copy_of k p).core.next ≡ length (files_of spec.what)) (some-same e)
    (subst (λ (s : ProcessSpec). length (copy_of k (pair_at_boot site from one)).core.next ≡ length (files_of s.what))
    (some-same named) (by-which k))
  where
    by-which : (k : Which) → length (copy_of k (pair_at_boot site from one)).core.next ≡ length (files_of one.what)
    by-which First = length-replicate (length (files_of one.what)) 1
    by-which Second = length-replicate (length (files_of one.what)) 1
begin-numbered site from (one ∷ specs) (suc number) pair spec k e named =
    begin-numbered site (from + 1) specs number pair spec k e named

pub run-numbered : {site : Site} {events : List Event} {w : World} → IsRun site events w → AllNumbered site w
run-numbered {site = site} run = holds-on (AllNumbered site) change-numbered run (begin-numbered site 0 site.processes)

pub files-there : (next : List ℕ) (files : List FileNumber)
    → ((named : FileNumber) → IsAmong named files → named.file < length next) → are_files next files ≡ true
files-there next [] all = refl
files-there next (named ∷ files) all =
    both_true (lt-ltb named.file (length next) (all named (inl refl)))
    (files-there next files (λ one i. all one (inr i)))
