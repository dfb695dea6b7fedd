-- The words of an image, and that its numbers are words.
use Rattle.std.proofs.Common.{◌≡◌, ◌≤◌, ◌<◌, inl, inr, ℕ, suc, ◌+◌, ℤ, pos, Bool, true, false, if◌then◌else◌, List, []}
use Rattle.std.proofs.Common.{◌∷◌, ◌++◌, length, map, reverse, flat_map, Option, Some, None, refl, ap, ap₂, sym, subst}
use Rattle.std.proofs.Common.{◌∙◌, arith, append_assoc, append-nil}
use Rattle.std.specs.List.{All}
use Rattle.std.proofs.lemmas.Grind.{reverse_onto, flat_map-append}
use Rattle.std.proofs.lemmas.List.{length-reverse, reverse-reverse, length-map, map-append}
use Rattle.std.proofs.lemmas.List.Elements.{All-head, All-tail, All-cons, All-nil}
use Rattle.std.proofs.lemmas.List.Folds.{flat_map-map}
use Rattle.std.proofs.lemmas.Option.{slice_get_within}
use Rattle.gd_words.specs.Members.{IsAmong}
use Rattle.gd_words.proofs.Among.{among-reverse}
use Rattle.gd_words.proofs.Distinct.{distinct-few}
use Rattle.tal_tree.specs.Limits.{IsWithinLimits}
use Rattle.tal_tree.specs.Regular.{AreListed}
use Rattle.tal_tree.specs.declared.program.Program.{Program}
use Rattle.process_semantics.specs.Image.{frame_words, image_of, imaged_at, is_empty, item_words, program_words}
use Rattle.process_semantics.specs.Image.{state_words}
use Rattle.process_semantics.specs.Points.{where_good, where_both_good}
use Rattle.process_semantics.specs.Process.{Runs}
use Rattle.process_semantics.specs.Rests.{next_number}
use Rattle.process_semantics.specs.State.{Entry, Frame, ProgramState, count_of}
use Rattle.process_semantics.specs.declared.point.Point.{Point}
use Rattle.process_semantics.specs.declared.point.Point.TheVariants as point
use Rattle.tal_table.specs.program_deeds.specs.Deed.{Deed, Assigns, Tests, Enters, Returns, Passes, Stops, Takes, Asks}
use Rattle.tal_table.specs.program_deeds.specs.Deed.{Answers}
use Rattle.tal_table.specs.program_deeds.specs.Deed.{Checkpoints, deed_of}
use Rattle.tal_table.specs.program_deeds.specs.Doing.{point_by}
use Rattle.tal_table.specs.program_deeds.proofs.Calls.{point-is}
use Rattle.tal_table.specs.whole_states.specs.Whole.{AreFrames}
use Rattle.tal_table.specs.Places.{rest_at}
use Rattle.tal_interp.specs.Images.{imaged_rest, imaged_frames}
use Rattle.tal_interp.specs.SeenFrames.{frame_seen, frames_seen}
use Rattle.tal_interp.specs.declared.frame.Frame.{Frame as Kept}

-- At a checkpoint

either : (P : Point → Type 0) (b : Bool) (p q : Point) → P p → P q → P (if b then p else q)
either P true p q first second = first
either P false p q first second = second

good : (P : Point → Type 0) (p : Point) (n : Option ℕ) → P point.Inner → P p → P (where_good p n)
good P p None inner there = inner
good P p (Some n) inner there = there

both-good : (P : Point → Type 0) (p : Point) (m n : Option ℕ) → P point.Inner → P p → P (where_both_good p m n)
both-good P p None n inner there = inner
both-good P p (Some m) n inner there = good P p n inner there

module _ (program : Program) (items : List ℕ) (globals : List (List ℤ)) (in_hand awaits : Bool) where
  abbrev state : List Frame → Bool → ProgramState
  state frames ended = record { globals = globals; frames = frames; in_hand = in_hand; awaits = awaits; ended = ended }

  -- the image at a point has the words of these frames
  abbrev HasWords : List Frame → List Frame → Point → Type 0
  HasWords frames imaged p =
      state_words items (imaged_at (Runs program (state frames false)) p) ≡ program_words items (state imaged false)

  by-deed : (frame : Frame) (callers : List Frame) (deed : Deed)
      → HasWords (frame ∷ callers) (record frame { rest = imaged_rest deed frame.rest } ∷ callers)
      (point_by program (state (frame ∷ callers) false) deed)
  by-deed frame callers (Checkpoints named files) = refl
  by-deed frame callers (Takes buffer most got) =
      either (HasWords (frame ∷ callers) (frame ∷ callers)) in_hand _ _ refl
      (good (HasWords (frame ∷ callers) (frame ∷ callers)) point.Take
      (count_of program (state (frame ∷ callers) false) buffer most) refl refl)
  by-deed frame callers (Asks file buffer send room got) =
      either (HasWords (frame ∷ callers) (frame ∷ callers)) awaits _ _ refl
      (both-good (HasWords (frame ∷ callers) (frame ∷ callers)) point.Ask
      (count_of program (state (frame ∷ callers) false) buffer send)
      (count_of program (state (frame ∷ callers) false) buffer room) refl refl)
  by-deed frame callers (Answers buffer count) =
      either (HasWords (frame ∷ callers) (frame ∷ callers)) in_hand _ _
      (good (HasWords (frame ∷ callers) (frame ∷ callers)) point.Answer
      (count_of program (state (frame ∷ callers) false) buffer count) refl refl) refl
  by-deed frame callers (Assigns to value rest) = refl
  by-deed frame callers (Tests test first second) = refl
  by-deed frame callers (Enters procedure arguments to) = refl
  by-deed frame callers (Returns value) = refl
  by-deed frame callers Passes = refl
  by-deed frame callers Stops = refl

  by-frames : (frames : List Frame) (ended : Bool) → ended ≡ is_empty frames
      → image_of items (Runs program (state frames ended)) ≡ program_words items (state (imaged_frames frames) ended)
  by-frames [] true is = refl
  by-frames [] false is = refl
  by-frames (frame ∷ callers) true is = absurd (cc)
  by-frames (frame ∷ callers) false is =
      ap (λ (p : Point). state_words items (imaged_at (Runs program (state (frame ∷ callers) false)) p))
      (point-is program (state (frame ∷ callers) false))
      ∙ by-deed frame callers (deed_of frame.rest)

pub image-words : (program : Program) (s : ProgramState) (items : List ℕ) → s.ended ≡ is_empty s.frames
    → image_of items (Runs program s) ≡ program_words items (record s { frames = imaged_frames s.frames })
image-words program s items is = by-frames program items s.globals s.in_hand s.awaits s.frames s.ended is

length-imaged : (frames : List Frame) → length (imaged_frames frames) ≡ length frames
length-imaged [] = refl
length-imaged (frame ∷ frames) = refl

pub image-parts : (program : Program) (s : ProgramState) (items : List ℕ) (frames all : List ℤ)
    → s.ended ≡ is_empty s.frames
    → frames ≡ [] ++ pos (length s.frames) ∷ flat_map frame_words (reverse (imaged_frames s.frames))
    → all ≡ frames ++ pos (length items) ∷ flat_map (item_words s) items
    → all ≡ image_of items (Runs program s)
image-parts program s items frames all ended first second =
    second ∙ ap (λ (words : List ℤ). words ++ pos (length items) ∷ flat_map (item_words s) items) first
    ∙ ap (λ (n : ℕ). pos n ∷ (flat_map frame_words (reverse (imaged_frames s.frames))
    ++ pos (length items) ∷ flat_map (item_words s) items))
    (sym (length-imaged s.frames))
    ∙ sym (image-words program s items ended)

-- Frames that are kept

turned : {A : Type 0} (x : A) (xs : List A) → reverse (x ∷ xs) ≡ reverse xs ++ x ∷ []
turned x xs = reverse_onto xs x []

pub last-first : {A : Type 0} (xs : List A) (x : A) → reverse (xs ++ x ∷ []) ≡ x ∷ reverse xs
last-first [] x = refl
last-first (y ∷ xs) x =
    turned y (xs ++ x ∷ []) ∙ ap (λ ys. ys ++ y ∷ []) (last-first xs x) ∙ ap (λ ys. x ∷ ys) (sym (turned y xs))

pub map-turned : {A B : Type 0} (f : A → B) (xs : List A) → map f (reverse xs) ≡ reverse (map f xs)
map-turned f [] = refl
map-turned f (x ∷ xs) =
    ap (map f) (turned x xs) ∙ map-append f (reverse xs) (x ∷ []) ∙ ap (λ ys. ys ++ f x ∷ []) (map-turned f xs)
    ∙ sym (turned (f x) (map f xs))

map-back : {A B : Type 0} (f : A → B) (xs : List A) → reverse (map f (reverse xs)) ≡ map f xs
map-back f xs = ap reverse (map-turned f xs) ∙ reverse-reverse (map f xs)

parts : (words first second : List ℤ) (n : ℤ) → ((words ++ n ∷ []) ++ first) ++ second ≡ words ++ n ∷ (first ++ second)
parts words first second n = append_assoc (words ++ n ∷ []) first second ∙ append_assoc words (n ∷ []) (first ++ second)

module _ (places : List (List Entry)) (running : Kept) (callers : List Kept) where
  abbrev seen : Kept → Frame
  seen = frame_seen places

  abbrev top : Frame
  top = record (seen running) { rest = imaged_rest (deed_of (rest_at places running.at)) (rest_at places running.at) }

  stack-words : flat_map frame_words (reverse (top ∷ map seen (reverse callers)))
      ≡ flat_map (λ caller. frame_words (seen caller)) callers ++ frame_words top
  stack-words =
      ap (flat_map frame_words) (turned top (map seen (reverse callers))
      ∙ ap (λ (frames : List Frame). frames ++ top ∷ []) (map-back seen callers))
      ∙ flat_map-append frame_words (map seen callers) (top ∷ [])
      ∙ ap₂ (λ (first second : List ℤ). first ++ second) (flat_map-map frame_words seen callers)
      (append-nil (frame_words top))

  pub frames-put : (next : ℕ) (words : List ℤ) → next ≡ next_number top.rest
      → ((words ++ pos (length callers + 1) ∷ []) ++ flat_map (λ caller. frame_words (seen caller)) callers)
      ++ pos running.procedure ∷ pos next ∷ running.locals
      ≡ words ++ pos (length (frames_seen places (Some running) callers))
      ∷ flat_map frame_words (reverse (imaged_frames (frames_seen places (Some running) callers)))
  frames-put next words is =
      let count : length callers + 1 ≡ suc (length (map seen (reverse callers))) =
      omega (arith, length-map (reverse callers) seen, length-reverse callers) in
      ap (λ (n : ℕ). ((words ++ pos (length callers + 1) ∷ [])
      ++ flat_map (λ caller. frame_words (seen caller)) callers)
      ++ pos running.procedure ∷ pos n ∷ running.locals) is
      ∙ parts words (flat_map (λ caller. frame_words (seen caller)) callers) (frame_words top)
      (pos (length callers + 1))
      ∙ ap₂ (λ (n : ℕ) (ws : List ℤ). words ++ pos n ∷ ws) count (sym stack-words)

-- Numbers that are words

all-given : {A : Type 0} (P : A → Type 0) (xs : List A) → ((x : A) → IsAmong x xs → P x) → All P xs
all-given P [] each = All-nil P
all-given P (x ∷ xs) each = All-cons P x xs (each x (inl refl)) (all-given P xs (λ y among. each y (inr among)))

given-all : {A : Type 0} (P : A → Type 0) (x : A) (xs : List A) → All P xs → IsAmong x xs → P x
given-all P x (y ∷ ys) all (inl same) = subst P (sym same) (All-head P y ys all)
given-all P x (y ∷ ys) all (inr among) = given-all P x ys (All-tail P y ys all) among
given-all P x [] all among = absurd among

pub items-below : (program : Program) (items files : List ℕ) → IsWithinLimits program → AreListed program items files
    → All (λ item. item < 64) items
items-below program items files limits listed =
    all-given (λ n. n < 64) items (λ k among.
    let may = listed.items_there k among in
    let within = slice_get_within program.items k may.item may.there in
    let most = limits.items in omega (arith, within, most))

pub items-few : (program : Program) (items files : List ℕ) → IsWithinLimits program → AreListed program items files
    → length items ≤ 64
items-few program items files limits listed =
    let few = distinct-few items (length program.items) listed.distinct_items
    (λ k among. let may = listed.items_there k among in slice_get_within program.items k may.item may.there) in
    let most = limits.items in omega (arith, few, most)

abbrev IsBelow : Frame → Type 0
IsBelow frame = frame.procedure < 64

pub frames-below : (program : Program) (frames : List Frame) → IsWithinLimits program → AreFrames program frames
    → All IsBelow frames
frames-below program [] limits are = All-nil IsBelow
frames-below program (frame ∷ frames) limits are =
    let there = slice_get_within program.procedures frame.procedure are.0.procedure are.0.there in
    let most = limits.procedures.1 in
    All-cons IsBelow frame frames (omega (arith, there, most)) (frames-below program frames limits are.1.1)

all-mapped : {A B : Type 0} (P : B → Type 0) (f : A → B) (xs : List A) → All P (map f xs) → All (λ x. P (f x)) xs
all-mapped P f [] all = All-nil (λ x. P (f x))
all-mapped P f (x ∷ xs) all =
    All-cons (λ x. P (f x)) x xs (All-head P (f x) (map f xs) all) (all-mapped P f xs (All-tail P (f x) (map f xs) all))

all-back : {A : Type 0} (P : A → Type 0) (xs : List A) → All P (reverse xs) → All P xs
all-back P xs all =
    all-given P xs (λ x among. given-all P x (reverse xs) all
    (among-reverse x (reverse xs) (subst (λ ys. IsAmong x ys) (sym (reverse-reverse xs)) among)))

pub callers-few : (places : List (List Entry)) (running : Kept) (callers : List Kept)
    → length (frames_seen places (Some running) callers) ≤ 64
    → length callers + 1 ≤ 64
callers-few places running callers few =
    omega (arith, few, length-map (reverse callers) (frame_seen places), length-reverse callers)

pub running-below : (places : List (List Entry)) (running : Kept) (callers : List Kept)
    → All IsBelow (frames_seen places (Some running) callers)
    → running.procedure < 64
running-below places running callers all =
    All-head IsBelow (frame_seen places running) (map (frame_seen places) (reverse callers)) all

pub callers-below : (places : List (List Entry)) (running : Kept) (callers : List Kept)
    → All IsBelow (frames_seen places (Some running) callers)
    → All (λ caller. caller.procedure < 64) callers
callers-below places running callers all =
    all-back (λ (caller : Kept). caller.procedure < 64) callers
    (all-mapped IsBelow (frame_seen places) (reverse callers)
    (All-tail IsBelow (frame_seen places running) (map (frame_seen places) (reverse callers)) all))
