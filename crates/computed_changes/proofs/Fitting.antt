-- The receive tables of all copies in a run, and those that sent checkpoints carry, fit their process.
use Rattle.std.proofs.Common.{◌≡◌, inl, inr, ℕ, zero, suc, ◌+◌, ◌<◌, ◌&&◌, ℤ, true, List, [], ◌∷◌, ◌++◌, map, length}
use Rattle.std.proofs.Common.{Option, None, Some, is_some, option_map, slice_get, refl, sym, ap, subst, ◌∙◌, arith}
use Rattle.std.specs.Prelude.{nat_le}
use Rattle.std.specs.Cmp.Derive.{both_true}
use Rattle.std.proofs.lemmas.Bool.{le-leb, leb-true, lt-ltb, ltb-true}
use Rattle.std.proofs.lemmas.Option.{slice_get-map}
use Rattle.tal_tree.specs.gd_words.specs.Members.{IsAmong}
use Rattle.tal_tree.specs.declared.site.Site.{Site}
use Rattle.tal_tree.specs.declared.site.ProcessSpec.{ProcessSpec}
use Rattle.tal_tree.specs.declared.site.OpenerSpec.{OpenerSpec}
use Rattle.schedule.specs.declared.event.Event.{Event}
use Rattle.world_semantics.specs.process_semantics.specs.Image.{state_from_words}
use Rattle.world_semantics.specs.plain_semantics.specs.Openers.{files_of, openers_of}
use Rattle.world_semantics.specs.checkpoint_image.specs.declared.receive.OpenerBlock.{OpenerBlock}
use Rattle.world_semantics.specs.checkpoint_image.specs.declared.receive.ReceiveBlock.{ReceiveBlock}
use Rattle.world_semantics.specs.checkpoint_image.specs.declared.message.FileNumber.{FileNumber}
use Rattle.world_semantics.specs.checkpoint_image.specs.declared.message.Image.{Image}
use Rattle.world_semantics.specs.checkpoint_image.specs.declared.message.ImageMessage.{ImageMessage}
use Rattle.world_semantics.specs.checkpoint_image.specs.Receive.{after_taking, after_answering, last_ones}
use Rattle.change_layout.specs.sync_ids.specs.Tables.{is_of_depth, are_of_depths, is_unanswered, can_hold}
use Rattle.change_layout.specs.sync_ids.proofs.Tables.{and-left, and-right, depth-at, depths-set, more-taken}
use Rattle.change_layout.specs.sync_ids.proofs.Tables.{one-more-kept}
use Rattle.world_semantics.specs.Core.{Core, Deed, Advances, goes, checkpoints, takes, asks, gets, answers, acts}
use Rattle.world_semantics.specs.Core.{put_in}
use Rattle.world_semantics.specs.declared.which.Which.{Which}
use Rattle.world_semantics.specs.declared.which.Which.TheVariants.{First, Second}
use Rattle.world_semantics.specs.World.{Copy, Pair, World, copy_of, pair_at_boot, pairs_at_boot}
use Rattle.world_semantics.specs.Messages.{Sending, Cause}
use Rattle.world_semantics.specs.Passes.{checkpoint_of}
use Rattle.world_semantics.specs.Rules.{Change, new_core}
use Rattle.world_semantics.specs.Follows.{IsRun}
use Rattle.world_semantics.proofs.Hands.{map-some}
use Rattle.world_semantics.proofs.Lists.{some-same, set-there}
use Rattle.world_semantics.proofs.Runs.{holds-on}
use Rattle.world_semantics.proofs.Becoming as becoming
use Rattle.world_semantics.proofs.Becoming.{Becomes, change-was}
use Rattle.computed_changes.specs.Fitting.{depths_of, fits}
use Rattle.computed_changes.proofs.Files.{run-numbered, files-there}
use Rattle.computed_changes.proofs.Saying.{Says, nothing, a_checkpoint, was_taken, change-said}

-- a table can be that of a process with openers of these depths
abbrev Fits : List ℕ → ReceiveBlock → Type 0
Fits depths table = (are_of_depths table.openers depths && can_hold table.openers table.in_hand) ≡ true

-- The beginning

begin-of : (openers : List OpenerSpec) → are_of_depths (map (λ opener. record { taken = 0; kept = [] }) openers)
    (map (λ opener. opener.depth) openers) ≡ true
begin-of [] = refl
begin-of (opener ∷ openers) = both_true (both_true (le-leb 0 opener.depth (omega arith)) refl) (begin-of openers)

-- Acts

depth-is : (openers : List OpenerSpec) (place : ℕ) (opener : OpenerSpec) → slice_get openers place ≡ Some opener
    → slice_get (map (λ (one : OpenerSpec). one.depth) openers) place ≡ Some opener.depth
depth-is openers place opener there = slice_get-map (λ (one : OpenerSpec). one.depth) openers place
    ∙ ap (option_map (λ (one : OpenerSpec). one.depth)) there

-- each block has a depth
depth-there : (blocks : List OpenerBlock) (depths : List ℕ) (place : ℕ) (block : OpenerBlock)
    → are_of_depths blocks depths ≡ true
    → slice_get blocks place ≡ Some block → (depth : ℕ) × (slice_get depths place ≡ Some depth)
depth-there [] depths place block are there = absurd (cc)
depth-there (b ∷ blocks) [] place block are there = absurd (cc)
depth-there (b ∷ blocks) (depth ∷ depths) zero block are there = (depth, refl)
depth-there (b ∷ blocks) (depth ∷ depths) (suc place) block are there =
    depth-there blocks depths place block (and-right (is_of_depth b depth) (are_of_depths blocks depths) are) there

taking-fits : (depths : List ℕ) (place : ℕ) (block : OpenerBlock) (table : ReceiveBlock)
    → slice_get table.openers place ≡ Some block → Fits depths table
    → Fits depths (after_taking place block table)
taking-fits depths place block table there ok =
    let are = and-left (are_of_depths table.openers depths) _ ok in
    let found = depth-there table.openers depths place block are there in
    let of = depth-at table.openers depths place block found.0 are there found.1 in
    let new : OpenerBlock = record block { taken = block.taken + 1 } in
    let kept = leb-true (length block.kept) block.taken (and-right (nat_le (length block.kept) found.0) _ of) in
    both_true (depths-set table.openers depths place new found.0 are found.1
    (more-taken (length block.kept) found.0 block.taken of))
    (ap is_unanswered (set-there table.openers place block new there)
    ∙ lt-ltb (length block.kept) (block.taken + 1) (omega (arith, kept)))

answering-fits : (openers : List OpenerSpec) (place : ℕ) (opener : OpenerSpec) (block : OpenerBlock) (words : List ℤ)
    (table : ReceiveBlock)
    → table.in_hand ≡ Some place → slice_get openers place ≡ Some opener → slice_get table.openers place ≡ Some block
    → Fits (map (λ (one : OpenerSpec). one.depth) openers) table
    → Fits (map (λ (one : OpenerSpec). one.depth) openers) (after_answering opener.depth place block words table)
answering-fits openers place opener block words table held opens there ok =
    let depths = map (λ (one : OpenerSpec). one.depth) openers in
    let are = and-left (are_of_depths table.openers depths) _ ok in
    let holds : can_hold table.openers table.in_hand ≡ true = and-right (are_of_depths table.openers depths) _ ok in
    let unanswered : is_unanswered (slice_get table.openers place) ≡ true =
    ap (can_hold table.openers) (sym held) ∙ holds in
    let fewer = ltb-true (length block.kept) block.taken (ap is_unanswered (sym there) ∙ unanswered) in
    both_true
    (depths-set table.openers depths place (record block { kept = last_ones opener.depth (block.kept ++ words ∷ []) })
    opener.depth are
    (depth-is openers place opener opens) (one-more-kept block.kept words opener.depth block.taken fewer)) refl

advances-fits : {openers : List OpenerSpec} {core next : Core} {deed : Deed} → Advances openers core deed next
    → Fits (map (λ (one : OpenerSpec). one.depth) openers) core.receive
    → Fits (map (λ (one : OpenerSpec). one.depth) openers) next.receive
advances-fits (goes p) ok = ok
advances-fits (checkpoints p) ok = ok
advances-fits {core = core} (takes {place = place} block p there) ok = taking-fits _ place block core.receive there ok
advances-fits (asks p f w) ok = ok
advances-fits (gets p f) ok = ok
advances-fits {openers = openers} {core = core}
    (answers {place = place} {words = words} opener block p held opens there w) ok =
    answering-fits openers place opener block words core.receive held opens there ok
advances-fits (acts p c) ok = ok

put-receive : (core applied : Core) (image : Image) → put_in core image ≡ Some applied → applied.receive ≡ image.receive
put-receive core applied image e =
    map-some _ (λ (one : Core). one.receive ≡ image.receive)
    (state_from_words core.state (is_some image.receive.in_hand) image.body) applied (λ s r. refl) e

-- Processes

-- the tables of a process's copies fit it, and so does each that a checkpoint carries which they ever sent
record AreFitting (depths : List ℕ) (pair : Pair) : Type 0 where
  pub copies : (k : Which) → Fits depths (copy_of k pair).core.receive
  pub sent : (message : ImageMessage) → IsAmong message pair.checkpoints → Fits depths message.image.receive

-- the table of a process at its beginning
begun-fits : (site : Site) (number : ℕ) (spec : Option ProcessSpec) (core : Core)
    → Fits (depths_of site number) core.receive → Fits (depths_of site number) (new_core site number spec core).receive
begun-fits site number None core ok = ok
begun-fits site number (Some spec) core ok = both_true (begin-of (openers_of site number)) refl

becomes-fits : {site : Site} {w : World} {number : ℕ} {pair : Pair} {sent : List ImageMessage} {k : Which}
    {cause : Cause} {after : Copy}
    → Becomes site w number pair sent k cause after → AreFitting (depths_of site number) pair
    → Fits (depths_of site number) after.core.receive
becomes-fits {k = k} becoming.stays ok = ok.copies k
becomes-fits {k = k} (becoming.acts r c a e fr) ok = advances-fits a (ok.copies k)
becomes-fits {k = k} (becoming.sends r p i) ok = ok.copies k
becomes-fits {k = k} (becoming.passes r) ok = ok.copies k
becomes-fits {k = k} (becoming.ends r) ok = ok.copies k
becomes-fits {site = site} {number = number} {pair = pair} {k = k}
    (becoming.applies {applied = applied} message r i e n a) ok =
    subst (Fits (depths_of site number)) (sym (put-receive (copy_of k pair).core applied message.image a))
    (ok.sent message i)
becomes-fits {k = k} (becoming.is_told taken r s i e n) ok = ok.copies k
becomes-fits {k = k} becoming.is_freed ok = ok.copies k
becomes-fits {k = k} becoming.needs_less ok = ok.copies k
becomes-fits {k = k} (becoming.hears request r) ok = ok.copies k
becomes-fits {k = k} (becoming.hears_early request r) ok = ok.copies k
becomes-fits {k = k} (becoming.stops processor) ok = ok.copies k
becomes-fits {k = k} (becoming.takes_over node processor t) ok = ok.copies k
becomes-fits {site = site} {number = number} {pair = pair} (becoming.is_blank processor here was) ok =
    begun-fits site number (slice_get site.processes number) pair.first.core (ok.copies First)
becomes-fits {k = k} (becoming.renews processor there) ok = ok.copies k

says-fits : {number : ℕ} (depths : List ℕ) (before after : Pair) → Says number before after → AreFitting depths before
    → (message : ImageMessage)
    → IsAmong message after.checkpoints → Fits depths message.image.receive
says-fits depths before after (nothing c t) ok message i = ok.sent message (subst (IsAmong message) c i)
says-fits depths before after (was_taken taken j c t) ok message i = ok.sent message (subst (IsAmong message) c i)
says-fits {number = number} depths before after (a_checkpoint k c t) ok message i = of (subst (IsAmong message) c i)
  where
    of : IsAmong message (checkpoint_of number (copy_of k before) ∷ before.checkpoints)
        → Fits depths message.image.receive
    of (inl same) = subst (λ (m : ImageMessage). Fits depths m.image.receive) (sym same) (ok.copies k)
    of (inr among) = ok.sent message among

abbrev AllFitting : Site → World → Type 0
AllFitting site w =
    (number : ℕ) (pair : Pair) → slice_get w.processes number ≡ Some pair → AreFitting (depths_of site number) pair

change-fits : {site : Site} (w next : World) (cause : Cause) (sendings : List Sending)
    → Change site w cause sendings next → AllFitting site w → AllFitting site next
change-fits {site = site} w next cause sendings c ok number after now =
    let was = change-was w next cause sendings c number after now in
    let said = change-said w next cause sendings c number after now in
    record {
      copies = λ k. becomes-fits (was.copies k) (ok number was.before was.there);
      sent = says-fits (depths_of site number) said.before after said.says (ok number said.before said.there);
    }

fits-begin : (site : Site) (from : ℕ) (specs : List ProcessSpec) (place number : ℕ) (pair : Pair)
    → number ≡ from + place
    → slice_get (pairs_at_boot site from specs) place ≡ Some pair → AreFitting (depths_of site number) pair
fits-begin site from [] place number pair n e = absurd (cc)
fits-begin site from (spec ∷ specs) zero number pair n e =
    let same : from ≡ number = omega (arith, n) in
    subst (λ m. AreFitting (depths_of site m) pair) same
    (subst (AreFitting (depths_of site from)) (some-same e)
    (record { copies = by-which; sent = λ message i. absurd i }))
  where
    by-which : (k : Which) → Fits (depths_of site from) (copy_of k (pair_at_boot site from spec)).core.receive
    by-which First = both_true (begin-of (openers_of site from)) refl
    by-which Second = both_true (begin-of (openers_of site from)) refl
fits-begin site from (spec ∷ specs) (suc place) number pair n e =
    fits-begin site (from + 1) specs place number pair (omega (arith, n)) e

run-fits : {site : Site} {events : List Event} {w : World} → IsRun site events w → AllFitting site w
run-fits {site = site} run =
    holds-on (AllFitting site) change-fits run
    (λ number pair there. fits-begin site 0 site.processes number number pair (omega arith) there)

pub sent-fits : {site : Site} {events : List Event} (w : World) (number : ℕ) (spec : ProcessSpec) (pair : Pair)
    (k : Which) (message : ImageMessage)
    → IsRun site events w → slice_get site.processes number ≡ Some spec → slice_get w.processes number ≡ Some pair
    → IsAmong message pair.checkpoints
    → ((named : FileNumber) → IsAmong named message.image.files → named.file < length (files_of spec.what))
    → fits (depths_of site number) (copy_of k pair).core message.image ≡ true
sent-fits w number spec pair k message run named there i files =
    let many = run-numbered run number pair spec k there named in
    both_true
    (files-there (copy_of k pair).core.next message.image.files
    (λ one among. subst (λ n. one.file < n) (sym many) (files one among)))
    ((run-fits run number pair there).sent message i)
