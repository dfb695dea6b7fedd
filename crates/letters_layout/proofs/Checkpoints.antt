-- Each checkpoint is within the layout, and so is what tells that it was taken.
use Rattle.std.proofs.Common.{◌≡◌, ◌≤◌, ◌<◌, ◌^◌, inr, ℕ, zero, suc, ◌-◌, ℤ, List, [], ◌∷◌, map, drop, reverse, length}
use Rattle.std.proofs.Common.{All, Bool, true, false, Option, Some, None, slice_get, refl, sym, ap, subst, arith}
use Rattle.std.proofs.lemmas.Bool.{le-leb}
use Rattle.std.proofs.lemmas.List.{length-drop}
use Rattle.std.specs.List.{slice_index_or}
use Rattle.std.proofs.lemmas.Option.{slice_get-get_or, slice_get_within}
use Rattle.gd_words.specs.Members.{IsAmong}
use Rattle.gd_words.proofs.Among.{among-at, among-reverse}
use Rattle.gd_words.proofs.Distinct.{distinct-few}
use Rattle.tal_tree.specs.declared.site.OpenerSpec.{OpenerSpec}
use Rattle.tal_tree.specs.declared.site.ProcessSpec.{ProcessSpec}
use Rattle.tal_tree.specs.declared.site.Site.{Site}
use Rattle.schedule.specs.declared.event.Event.{Event}
use Rattle.plain_semantics.specs.Openers.{openers_of}
use Rattle.checkpoint_image.specs.Layout.{IsPlace, IsFile, IsOpener, IsWithinLayout}
use Rattle.checkpoint_image.specs.declared.message.FileNumber.{FileNumber}
use Rattle.checkpoint_image.specs.declared.message.Image.{Image}
use Rattle.checkpoint_image.specs.declared.message.ImageMessage.{ImageMessage}
use Rattle.checkpoint_image.specs.declared.message.TakenMessage.{TakenMessage}
use Rattle.checkpoint_image.specs.declared.receive.OpenerBlock.{OpenerBlock}
use Rattle.process_semantics.specs.Image.{listed_items, listed_files, image_of}
use Rattle.process_semantics.specs.Process.{ProcessState, Runs, Serves}
use Rattle.process_images.specs.Short.{IsWithinProcess}
use Rattle.process_images.proofs.Everything.{whole-listed}
use Rattle.process_images.proofs.Lengths.{image-short}
use Rattle.whole_states.specs.Listing.{MayList}
use Rattle.whole_states.specs.Processes.{IsWholeProcess}
use Rattle.whole_states.proofs.Named.{frames-listed, file-there}
use Rattle.world_semantics.specs.Core.{Core, Deed, next_on, carried_by, files_for, items_for}
use Rattle.world_semantics.specs.Follows.{IsRun}
use Rattle.world_semantics.specs.Messages.{Checkpointing, Taking}
use Rattle.world_semantics.specs.World.{Pair, World}
use Rattle.letter_laws.specs.process_histories.specs.Histories.{HasDone, kind_of, kind_without_mirror}
use Rattle.letter_laws.specs.process_histories.specs.Words.{answered_to, take_from, ask_on}
use Rattle.letter_laws.specs.process_histories.proofs.Counts.{taken-number, next-number}
use Rattle.letter_laws.specs.process_histories.proofs.OneKind.{done-kind, openers-same, same-pair}
use Rattle.letter_laws.specs.process_histories.proofs.Kept.{kept-last}
use Rattle.letter_laws.specs.process_histories.proofs.Whole.{done-whole}
use Rattle.world_semantics.specs.Core.{goes, checkpoints, takes, asks, gets, answers, acts}
use Rattle.world_semantics.proofs.Lists.{some-same, mapped}
use Rattle.letter_laws.specs.process_histories.specs.Histories.{nothing_done, one_more}
use Rattle.letters_layout.proofs.Replies.{done-answers}
use Rattle.letter_laws.specs.computed_changes.specs.Laws.{IsSent}
use Rattle.letter_laws.specs.takeover_laws.specs.Fit.{IsFit}
use Rattle.letter_laws.specs.takeover_laws.proofs.Kept.{run-keeps}
use Rattle.change_layout.specs.Changing.{change_of}
use Rattle.message_layout.specs.Messages.{Carrying, Changing}
use Rattle.letters_layout.specs.Fitting.{IsSmall}
use Rattle.message_layout.specs.Layout.{Fits}
use Rattle.letters_layout.proofs.Changes.{HasFewKept, change-within}
use Rattle.letters_layout.proofs.Eras.{checkpoint-era, taken-era}
use Rattle.letters_layout.proofs.Numbered.{WasMade, run-known}
use Rattle.letters_layout.proofs.Requests.{few-of}

at-each : {X : Type 0} (P : X → Type 0) (xs : List X) → ((n : ℕ) (x : X) → slice_get xs n ≡ Some x → P x) → All P xs
at-each P xs each = λ k d there. each k (slice_index_or xs k d) (slice_get-get_or xs k d there)

among-drop : {A : Type 0} (n : ℕ) (x : A) (xs : List A) → IsAmong x (drop n xs) → IsAmong x xs
among-drop zero x xs among = among
among-drop (suc n) x [] among = among
among-drop (suc n) x (y ∷ xs) among = inr (among-drop n x xs among)

-- whoever's request is in hand has a place among the openers
hand-low : {site : Site} {number : ℕ} {spec : ProcessSpec} {deeds : List Deed} {core : Core}
    → HasDone site number spec deeds core → (place : ℕ) → core.receive.in_hand ≡ Some place
    → place < length (openers_of site number)
hand-low nothing_done place e = absurd (cc)
hand-low (one_more done (goes at)) place e = hand-low done place e
hand-low (one_more done (checkpoints at)) place e = hand-low done place e
hand-low (one_more {before = core} done (takes {place = one} block at there)) place e =
    let low = slice_get_within core.receive.openers one block there in
    let same = openers-same done in
    let is : one ≡ place = some-same e in omega (arith, low, same, is)
hand-low (one_more done (asks at named said)) place e = hand-low done place e
hand-low (one_more done (gets at named)) place e = hand-low done place e
hand-low (one_more done (answers opener block at hand known there said)) place e = absurd (cc)
hand-low (one_more done (acts at call)) place e = hand-low done place e

named-all : (P : FileNumber → Type 0) (next : ℕ → ℕ) (files : List ℕ)
    → ((file : ℕ) → IsAmong file files → P (record { file = file; next = next file }))
    → All P (map (λ file. record { file = file; next = next file }) files)
named-all P next files each = at-each P _
    (λ n x there. let from = mapped (λ (file : ℕ). record { file = file; next = next file }) files n x there in
    subst P (sym from.2) (each from.0 (among-at files n from.0 from.1)))

map-count : (next : ℕ → ℕ) (files : List ℕ)
    → length {A = FileNumber} (map (λ (file : ℕ). record { file = file; next = next file }) files) ≡ length files
map-count next [] = refl
map-count next (file ∷ files) = ap suc (map-count next files)

-- a process lists at its checkpoint only what it may, and so it does where it sends everything
listed-may : (s : ProcessState) → IsWholeProcess s → MayList s (listed_items s) (listed_files s)
listed-may (Runs program s) is = frames-listed program is.0 s.frames is.1.frames
listed-may (Serves sectors s) is = (refl, refl)

carried-may : (everything : Bool) (s : ProcessState) → IsWholeProcess s
    → MayList s (items_for everything s) (files_for everything s)
carried-may true s is = whole-listed s
carried-may false s is = listed-may s is

-- of few files that it may list, each once
files-few : (s : ProcessState) (items files : List ℕ) → IsWithinProcess s → MayList s items files
    → (length files ≤ 8) × ((file : ℕ) → IsAmong file files → file < 8)
files-few (Runs program s) items files limits listed =
    let most = limits.1.files in
    let few = distinct-few files (length program.files) listed.distinct_files
    (λ k among. file-there k (listed.files_there k among)) in (
      omega (arith, few, most),
      λ file among. let less = file-there file (listed.files_there file among) in
          omega (arith, less, most),
    )
files-few (Serves sectors s) items files limits listed =
    subst (λ (named : List ℕ). (length named ≤ 8) × ((file : ℕ) → IsAmong file named → file < 8)) (sym listed.1)
    (omega arith, λ file among. absurd among)

module _ (site : Site) (fit : IsFit site) (small : IsSmall site) (n before number : ℕ) (limit : n < 4294967296)
    (less : before < n) (core : Core) (made : WasMade site before number core) (everything : Bool) where
  abbrev items : List ℕ
  items = items_for everything core.state

  abbrev files : List ℕ
  files = files_for everything core.state

  whole : IsWholeProcess core.state
  whole = done-whole (fit.regular number made.spec made.there) made.done
      (record { count = let few = made.few in omega (arith, few, limit, less); short = made.short })

  within : IsWithinProcess core.state
  within = by core.state (done-kind made.done)
    where
      by : (s : ProcessState) → kind_of s ≡ kind_without_mirror made.spec.what → IsWithinProcess s
      by (Runs program s) same =
          small.programs number made.spec program made.there (same-pair made.spec.what program same)
      by (Serves sectors s) same = tt

  may : MayList core.state items files
  may = carried-may everything core.state whole

  body : length (image_of items core.state) ≤ 32767
  body = image-short core.state items files whole within may

  named-few : (length files ≤ 8) × ((file : ℕ) → IsAmong file files → file < 8)
  named-few = files-few core.state items files within may

  next-few : (file : ℕ) → next_on core file < 2 ^ 32
  next-few file = by (slice_get core.next file) refl
    where
      by : (found : Option ℕ) → slice_get core.next file ≡ found → next_on core file < 2 ^ 32
      by None e = rw e (omega arith)
      by (Some next) e =
          let is = next-number made.done file next e in
          let few = few-of (ask_on file) made.deeds in
          rw e (let made_few = made.few in omega (arith, is, few, less, limit, made_few))

  taken-few : (place : ℕ) (block : OpenerBlock) → slice_get core.receive.openers place ≡ Some block
      → block.taken < 2 ^ 32
  taken-few place block there =
      let is = taken-number made.done place block there in
      let few = few-of (take_from place) made.deeds in
      let made_few = made.few in omega (arith, is, few, less, limit, made_few)

  opener-there : (place : ℕ) (block : OpenerBlock) → slice_get core.receive.openers place ≡ Some block
      → (opener : OpenerSpec) × (slice_get (openers_of site number) place ≡ Some opener)
  opener-there place block there =
      let low = slice_get_within core.receive.openers place block there in
      let same = openers-same made.done in
      by (openers_of site number) place (omega (arith, low, same))
    where
      by : (openers : List OpenerSpec) (place : ℕ) → place < length openers
          → (opener : OpenerSpec) × (slice_get openers place ≡ Some opener)
      by [] place low = absurd (omega (arith, low))
      by (opener ∷ openers) zero low = (opener, refl)
      by (opener ∷ openers) (suc place) low = by openers place (omega (arith, low))

  kept-few : (place : ℕ) (block : OpenerBlock) → slice_get core.receive.openers place ≡ Some block
      → length block.kept ≤ 4
  kept-few place block there =
      let opener = opener-there place block there in
      let is = kept-last made.done place block there opener.0 opener.1 in
      let all : List (List ℤ) = reverse (answered_to place made.deeds) in
      let cut = length-drop (length all - opener.0.depth) all in
      let most = small.depths number place opener.0 opener.1 in
      let same = ap (length {A = List ℤ}) is in
      omega (arith, cut, most, same)

  kept-short : (place : ℕ) (block : OpenerBlock) → slice_get core.receive.openers place ≡ Some block
      → All (λ words. length words ≤ 16) block.kept
  kept-short place block there = at-each (λ words. length words ≤ 16) block.kept (λ k words at.
      let opener = opener-there place block there in
      let is = kept-last made.done place block there opener.0 opener.1 in
      let all : List (List ℤ) = reverse (answered_to place made.deeds) in
      let among = among-drop (length all - opener.0.depth) words all
      (subst (IsAmong words) is (among-at block.kept k words at)) in
      (done-answers (fit.regular number made.spec made.there) made.done
      (record { count = let f = made.few in omega (arith, f, limit, less); short = made.short }) place words
      (among-reverse words (answered_to place made.deeds) among)).1)

  hand-place : IsPlace core.receive.in_hand
  hand-place = by core.receive.in_hand refl
    where
      by : (hand : Option ℕ) → core.receive.in_hand ≡ hand → IsPlace hand
      by None e = tt
      by (Some place) e =
          let low = hand-low made.done place e in let few = small.openers number in omega (arith, low, few)

  number-there : number < length site.processes
  number-there = slice_get_within site.processes number made.spec made.there

  image-lies : (message : ImageMessage) → message.process ≡ number → message.era ≤ 509 → message.number ≤ n
      → message.image ≡ carried_by everything core
      → IsWithinLayout message
  image-lies message same era count is = record {
    short = record {
      body = subst (λ (i : Image). length i.body ≤ 32767) (sym is) body;
      files = subst (λ (i : Image). length i.files ≤ 32767) (sym is)
          (let l = map-count (next_on core) files in let few = named-few.0 in
          omega (arith, l, few));
      openers = subst (λ (i : Image). length i.receive.openers ≤ 32767) (sym is)
          (let l = openers-same made.done in let few = small.openers number in omega (arith, l, few));
      kept = subst (λ (i : Image). All (λ block. length block.kept ≤ 32767) i.receive.openers) (sym is)
          (at-each (λ block. length block.kept ≤ 32767) core.receive.openers (λ place block there.
          let few = kept-few place block there in omega (arith, few)));
      in_hand = subst (λ (i : Image). IsPlace i.receive.in_hand) (sym is) hand-place;
    };
    process = let low = number-there in let few = small.processes in omega (arith, same, low, few);
    era = omega (arith, era);
    number = omega (arith, count, limit);
    files = subst (λ (i : Image). All IsFile i.files) (sym is)
        (named-all IsFile (next_on core) files
        (λ file among. record { file = let l = named-few.1 file among in omega (arith, l); next = next-few file }));
    openers = subst (λ (i : Image). All IsOpener i.receive.openers) (sym is)
        (at-each IsOpener core.receive.openers (λ place block there.
        record { taken = taken-few place block there; replies = kept-short place block there }));
  }

  image-few : (message : ImageMessage) → message.image ≡ carried_by everything core → HasFewKept message
  image-few message is = record {
    openers = subst (λ (i : Image). length i.receive.openers < 4096) (sym is)
        (let l = openers-same made.done in let few = small.openers number in omega (arith, l, few));
    kept = subst (λ (i : Image). All (λ block. length block.kept ≤ 4) i.receive.openers) (sym is)
        (at-each (λ block. length block.kept ≤ 4) core.receive.openers kept-few);
  }

module _ (site : Site) (fit : IsFit site) (small : IsSmall site) (events : List Event) (w : World)
    (few : length events < 4294967296) (run : IsRun site events w) where
  there-spec : (number : ℕ) (pair : Pair) → slice_get w.processes number ≡ Some pair → number < length site.processes
  there-spec number pair there =
      let sound = (run-keeps site fit events w few run).processes number pair there in
      slice_get_within site.processes number sound.0 sound.1

  pub checkpoint-fits : (message : ImageMessage) → IsSent w (Checkpointing message)
      → Fits site (Carrying (Checkpointing message))
  checkpoint-fits message (pair, there, among) =
      let one = (run-known site fit events w few run message.process pair there).checkpoints message among in record {
        within = image-lies site fit small (length events) one.before message.process few one.less one.core one.made
            one.everything message refl (checkpoint-era run message.process pair there message among) one.count
            one.same;
        known = le-leb (suc message.process) (length site.processes) (there-spec message.process pair there);
      }

  pub change-fits : (before message : ImageMessage) → IsSent w (Checkpointing message)
      → Fits site (Changing (change_of before message))
  change-fits before message (pair, there, among) =
      let one = (run-known site fit events w few run message.process pair there).checkpoints message among in
      let whole = checkpoint-fits message (pair, there, among) in record {
        within = change-within before message whole.within
            (image-few site fit small (length events) one.before message.process few one.less one.core one.made
            one.everything message one.same);
        known = whole.known;
      }

  pub taken-fits : (taken : TakenMessage) → IsSent w (Taking taken) → Fits site (Carrying (Taking taken))
  taken-fits taken (pair, there, among) =
      let c = (run-known site fit events w few run taken.process pair there).takens taken among in
      let low = there-spec taken.process pair there in record {
        within = record {
          process = let most = small.processes in omega (arith, low, most);
          era = let e = taken-era run taken.process pair there taken among in omega (arith, e);
          number = omega (arith, c, few);
        };
        known = le-leb (suc taken.process) (length site.processes) low;
      }
