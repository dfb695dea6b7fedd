-- Each request is within the layout.
use Rattle.std.proofs.Common.{◌≡◌, ◌≤◌, ◌<◌, inl, inr, ℕ, suc, ℤ, Bool, true, ◌&&◌, List, [], ◌∷◌, length, Option, Some}
use Rattle.std.proofs.Common.{None, slice_get, option_map, refl, ap, subst, arith}
use Rattle.std.proofs.lemmas.Bool.{le-leb}
use Rattle.std.proofs.lemmas.Option.{slice_get_within}
use Rattle.gd_words.specs.Members.{IsAmong}
use Rattle.gd_words.specs.declared.message.Request.{Request}
use Rattle.tal_tree.specs.declared.site.OpenerSpec.{OpenerSpec}
use Rattle.tal_tree.specs.declared.site.ProcessSpec.{ProcessSpec}
use Rattle.tal_tree.specs.declared.site.Site.{Site}
use Rattle.tal_tree.specs.declared.site.Who.{Who}
use Rattle.tal_tree.specs.declared.site.Who.TheVariants as who
use Rattle.schedule.specs.declared.event.Event.{Event}
use Rattle.plain_semantics.specs.declared.slot.Opener.{Opener}
use Rattle.plain_semantics.specs.Openers.{openers_of, openers_by, opener_of, opener_on, server_of_file, file_of}
use Rattle.tal_tree.specs.declared.act.Act.{Act}
use Rattle.tal_tree.specs.declared.act.Shown.{Shown}
use Rattle.letter_laws.specs.awaited_requests.specs.Seats.{IsLaidOut}
use Rattle.letter_laws.specs.awaited_requests.proofs.Seats.{run-seats}
use Rattle.std.specs.List.{filter_map, cons_option}
use Rattle.std.proofs.lemmas.Bool.Decides.{eqb_tells}
use Rattle.world_semantics.specs.World.{World}
use Rattle.world_semantics.specs.Follows.{IsRun}
use Rattle.letter_laws.specs.process_histories.specs.Words.{ask_on}
use Rattle.letter_laws.specs.plain_histories.specs.Booking.{AreBooked, none_booked, deed_booked, entry_booked}
use Rattle.letter_laws.specs.plain_histories.specs.Booking.{reply_booked}
use Rattle.letter_laws.specs.plain_histories.proofs.Changed.{changed-same, changed-other}
use Rattle.letter_laws.specs.computed_changes.proofs.Placed.{who_at, opener-placed}
use Rattle.letter_laws.specs.takeover_laws.specs.Fit.{IsFit}
use Rattle.letter_laws.specs.takeover_laws.specs.Invariant.{Invariant, IsAsked}
use Rattle.letter_laws.specs.takeover_laws.proofs.Kept.{run-keeps}
use Rattle.letter_laws.specs.letters.proofs.Worlds.{played-run}
use Rattle.letter_laws.specs.letters.specs.Posts.{Post, HasPlayed}
use Rattle.letter_laws.specs.plain_histories.specs.Ledgers.{Ledger, with_entered, requests_of}
use Rattle.letter_laws.specs.plain_histories.specs.Slots.{IsEntry, is_newest, is_older}
use Rattle.letter_laws.specs.plain_histories.proofs.Counted.{booked-short}
use Rattle.world_semantics.specs.Messages.{Asking}
use Rattle.message_layout.specs.Messages.{Carrying}
use Rattle.letters_layout.specs.Fitting.{IsSmall}
use Rattle.message_layout.specs.Layout.{Fits}

-- who has a place is an opener of a process that the site has
there-opener : (openers : List OpenerSpec) (place : ℕ) (one : Who) → who_at openers place ≡ Some one
    → place < length openers
there-opener openers place one e = by (slice_get openers place) refl e
  where
    by : (found : Option OpenerSpec) → slice_get openers place ≡ found
        → option_map (λ (o : OpenerSpec). o.who) found ≡ Some one → place < length openers
    by None at e = absurd cc
    by (Some found) at e = slice_get_within openers place found at

pub there-process : (site : Site) (process place : ℕ) → place < length (openers_of site process)
    → process < length site.processes
there-process site process place low = by (slice_get site.processes process) refl low
  where
    by : (found : Option ProcessSpec) → slice_get site.processes process ≡ found
        → place < length (openers_by site process found) → process < length site.processes
    by None at low = absurd (omega (arith, low))
    by (Some spec) at low = slice_get_within site.processes process spec at

pub entry-number : (number : ℕ) (words : List ℤ) (all : List (List ℤ)) → IsEntry number words all
    → (number ≤ length all) × IsAmong words all
entry-number number words _ (is_newest {older = older} e) = (omega (arith, e), inl refl)
entry-number number words _ (is_older {newest = newest} {older = older} e) =
    let more = entry-number number words older e in (omega (arith, more.0), inr more.1)

pub names : {a b : Bool} → a ≡ true → b ≡ true → (a && b) ≡ true
names {a = a} {b = b} e h = rw (e, h) refl

pub few-of : {A B : Type 0} (h : A → Option B) (xs : List A) → length (filter_map h xs) ≤ length xs
few-of h [] = omega arith
few-of {B = B} h (x ∷ xs) = by (h x) refl (few-of h xs)
  where
    by : (found : Option B) → h x ≡ found → length (filter_map h xs) ≤ length xs
        → length (cons_option found (filter_map h xs)) ≤ suc (length xs)
    by None e few = omega (arith, few)
    by (Some y) e few = omega (arith, few)

-- a terminal doesn't enter more requests than it has
entered-few : {site : Site} {acts : List Act} {shown : List Shown} {ledger : Ledger} → IsSmall site
    → AreBooked site acts shown ledger → (terminal : ℕ)
    → length (ledger.entered terminal) ≤ 4294967295
entered-few small none_booked terminal = omega arith
entered-few small (deed_booked number spec deed before after booked there done advances allowed) terminal =
    entered-few small booked terminal
entered-few small (entry_booked {ledger = ledger} one opener words booked is even next) terminal =
    elim (eqb_tells one terminal) [
      | inl t ↦ (let low = small.requests one (length (ledger.entered one)) words next in
          let same = ap (λ (all : List (List ℤ)). length all)
          (changed-same one (words ∷ ledger.entered one) ledger.entered) in
          subst (λ k. length ((with_entered one words ledger).entered k) ≤ 4294967295) t.1 (omega (arith, low, same)))
      | inr t ↦ (let before = entered-few small booked terminal in
          let same = ap (λ (all : List (List ℤ)). length all)
          (changed-other one terminal (words ∷ ledger.entered one) ledger.entered t.1) in omega (arith, before, same))
    ]
entered-few small (reply_booked terminal opener words booked is ready) other = entered-few small booked other

-- a file with a place belongs to a process of the site
opened-there : (site : Site) (process file : ℕ) (opener : Opener)
    → opener_of site (who.File process file) ≡ Some opener
    → (spec : ProcessSpec) × (slice_get site.processes process ≡ Some spec)
opened-there site process file opener e = by (slice_get site.processes process) refl e
  where
    by : (found : Option ProcessSpec) → slice_get site.processes process ≡ found
        → opener_on site (who.File process file) (server_of_file site (file_of found file)) ≡ Some opener
        → (spec : ProcessSpec) × (slice_get site.processes process ≡ Some spec)
    by None at e = absurd cc
    by (Some spec) at e = (spec, at)

asked-few : (site : Site) (events : List Event) (w : World) (invariant : Invariant site (length events) w)
    → IsSmall site → IsLaidOut site → IsRun site events w → (one : Who) (opener : Opener)
    → length events < 4294967296 → opener_of site one ≡ Some opener
    → length (requests_of invariant.ledger one) < 4294967296
asked-few site events w invariant small out run (who.Terminal terminal) opener few opens =
    let most = entered-few small invariant.booked terminal in omega (arith, most)
asked-few site events w invariant small out run (who.File process file) opener few opens =
    let spec = opened-there site process file opener opens in
    let pair = (run-seats site events w out run).processes process spec.0 spec.1 in
    let count = (invariant.processes process pair.0 pair.1).2.count in
    let less = few-of (ask_on file) (invariant.ledger.deeds process) in
    omega (arith, few, count, less)

pub request-fits : (site : Site) (events : List Event) (post : Post) (request : Request) → IsFit site → IsSmall site
    → IsLaidOut site → length events < 4294967296
    → HasPlayed site events post → IsAmong request post.world.requests → Fits site (Carrying (Asking request))
request-fits site events post request fit small out few played among = by (invariant.requests request among)
  where
    invariant : Invariant site (length events) post.world
    invariant = run-keeps site fit events post.world few (played-run played)

    by : IsAsked site invariant.ledger request → Fits site (Carrying (Asking request))
    by (one, opens, entry) =
        let place = there-opener (openers_of site request.process) request.opener one
        (opener-placed site one request.process request.opener opens) in
        let process = there-process site request.process request.opener place in
        let number = entry-number request.number request.words (requests_of invariant.ledger one) entry in
        let short = booked-short fit.requests invariant.booked in record {
          within = record {
            process = omega (arith, process, small.processes);
            opener = let most = small.openers request.process in omega (arith, place, most);
            number = let most = asked-few site events post.world invariant small out (played-run played) one
                (record { server = request.process; place = request.opener }) few opens in
                omega (arith, most, number.0);
            words = short.requests one request.words number.1;
          };
          known = names (le-leb (suc request.process) (length site.processes) process)
              (le-leb (suc request.opener) (length (openers_of site request.process)) place);
        }
