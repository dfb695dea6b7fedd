-- What the words of an image restore.
use Rattle.std.proofs.Common.{◌≡◌, ℕ, ◌-◌, ℤ, Bool, true, false, List, [], ◌∷◌, ◌++◌, length, map, reverse, Option}
use Rattle.std.proofs.Common.{Some, None, is_some, is_none, refl, ap, sym, ◌∙◌, arith, length-append, option_and_then}
use Rattle.std.proofs.Common.{drop, take}
use Rattle.std.specs.Option.{option_map, option_to_list}
use Rattle.std.proofs.lemmas.List.{length-take, map-append}
use Rattle.std.proofs.Math.Seq.{take-append_seam}
use Rattle.tal_tree.specs.declared.program.Program.{Program}
use Rattle.process_semantics.specs.Image.{frames_in, is_empty, items_in, restored_items, restored_program, with_globals}
use Rattle.process_semantics.specs.State.{Entry, Frame, ProgramState}
use Rattle.process_semantics.specs.Words.{Front, count_in, whole}
use Rattle.tal_interp.specs.Images.{called_frames, frames_of, Overwrites}
use Rattle.tal_interp.specs.SeenFrames.{frame_seen, frames_seen}
use Rattle.tal_interp.proofs.Imaged.{last-first, map-turned}
use Rattle.tal_interp.specs.declared.frame.Frame.{Frame as Kept}
use Rattle.tal_interp.proofs.CalledFrames.{frames-called}
use Rattle.tal_interp.proofs.ListedItems.{items-alike}

module _ (program : Program) (s : ProgramState) (in_hand : Bool) where
  -- the state of these frames and of the items that are read behind them
  abbrev with_items : List Frame → List ℤ → Option ProgramState
  with_items frames words =
      option_map (with_globals in_hand frames)
      (whole (option_and_then (λ (n, left). items_in program n [] s.globals left) (count_in words)))

  restored-by : (words : List ℤ)
      → restored_program program s in_hand words
      ≡ option_and_then (λ (frames, left). with_items frames left) (frames_of program words)
  restored-by words = by-count (count_in words)
    where
      by-count : (f : Front ℕ)
          → option_and_then (λ (frames, left). restored_items program s in_hand frames left)
          (option_and_then (λ (n, left). frames_in program n left) f)
          ≡ option_and_then (λ (frames, left). with_items frames left)
          (option_and_then (λ (n, left). called_frames program (Some program.main) n left) f)
      by-count None = refl
      by-count (Some (n, left)) = frames-called program with_items (Some program.main) n left

  pub no-frames : (words : List ℤ) → frames_of program words ≡ None → restored_program program s in_hand words ≡ None
  no-frames words is = restored-by words ∙ ap (option_and_then (λ (frames, left). with_items frames left)) is

  pub no-count : (words left : List ℤ) (frames : List Frame) → frames_of program words ≡ Some (frames, left)
      → count_in left ≡ None
      → restored_program program s in_hand words ≡ None
  no-count words left frames is none =
      restored-by words ∙ ap (option_and_then (λ (frames, left). with_items frames left)) is
      ∙ ap (λ (f : Front ℕ). option_map (with_globals in_hand frames)
      (whole (option_and_then (λ (n, left). items_in program n [] s.globals left) f))) none

  with-count : (words left rest : List ℤ) (frames : List Frame) (n : ℕ) → frames_of program words ≡ Some (frames, left)
      → count_in left ≡ Some (n, rest)
      → restored_program program s in_hand words
      ≡ option_map (with_globals in_hand frames) (whole (items_in program n [] s.globals rest))
  with-count words left rest frames n is count =
      restored-by words ∙ ap (option_and_then (λ (frames, left). with_items frames left)) is
      ∙ ap (λ (f : Front ℕ). option_map (with_globals in_hand frames)
      (whole (option_and_then (λ (n, left). items_in program n [] s.globals left) f))) count

-- What was read is a state

pub refused : (program : Program) (s : ProgramState) (in_hand : Bool) (words left rest : List ℤ) (frames : List Frame)
    (n : ℕ)
    → frames_of program words ≡ Some (frames, left) → count_in left ≡ Some (n, rest)
    → is_some (whole (items_in program n [] [] rest)) ≡ false → restored_program program s in_hand words ≡ None
refused program s in_hand words left rest frames n is count none =
    with-count program s in_hand words left rest frames n is count
    ∙ by-items (whole (items_in program n [] s.globals rest)) (items-alike program n [] s.globals [] rest ∙ none)
  where
    by-items : (o : Option (List (List ℤ))) → is_some o ≡ false → option_map (with_globals in_hand frames) o ≡ None
    by-items None out = refl
    by-items (Some globals) out = absurd (cc)

-- the globals of an image that is taken
pub record IsTaken (program : Program) (s : ProgramState) (in_hand : Bool) (words rest : List ℤ)
    (frames : List Frame) : Type 0 where
  pub globals : List (List ℤ)
  pub holds : Overwrites program s.globals rest globals
  pub is : restored_program program s in_hand words ≡ Some (with_globals in_hand frames globals)

pub taken : (program : Program) (s : ProgramState) (in_hand : Bool) (words left rest : List ℤ) (frames : List Frame)
    (n : ℕ)
    → frames_of program words ≡ Some (frames, left) → count_in left ≡ Some (n, rest)
    → is_some (whole (items_in program n [] [] rest)) ≡ true → IsTaken program s in_hand words rest frames
taken program s in_hand words left rest frames n is count some =
    by-items (items_in program n [] s.globals rest) refl (items-alike program n [] s.globals [] rest ∙ some)
  where
    by-items : (f : Front (List (List ℤ))) → items_in program n [] s.globals rest ≡ f → is_some (whole f) ≡ true
        → IsTaken program s in_hand words rest frames
    by-items None items there = absurd (cc)
    by-items (Some (globals, word ∷ more)) items there = absurd (cc)
    by-items (Some (globals, [])) items there = record {
      globals = globals;
      holds = record { count = n; named = []; are = items };
      is = with-count program s in_hand words left rest frames n is count
          ∙ ap (λ (f : Front (List (List ℤ))). option_map (with_globals in_hand frames) (whole f)) items;
    }

frames-turned : (places : List (List Entry)) (running : Option Kept) (callers : List Kept)
    → (running ≡ None → callers ≡ [])
    → reverse (map (frame_seen places) (callers ++ option_to_list running)) ≡ frames_seen places running callers
frames-turned places None callers alone =
    ap (λ (kept : List Kept). reverse (map (frame_seen places) (kept ++ []))) (alone refl)
frames-turned places (Some running) callers alone =
    ap reverse (map-append (frame_seen places) callers (running ∷ []))
    ∙ last-first (map (frame_seen places) callers) (frame_seen places running)
    ∙ ap (λ (frames : List Frame). frame_seen places running ∷ frames) (sym (map-turned (frame_seen places) callers))

empty-kept : (places : List (List Entry)) (running : Option Kept) (callers : List Kept)
    → (running ≡ None → callers ≡ [])
    → is_empty (map (frame_seen places) (callers ++ option_to_list running)) ≡ is_none running
empty-kept places None callers alone =
    ap (λ (kept : List Kept). is_empty (map (frame_seen places) (kept ++ []))) (alone refl)
empty-kept places (Some running) [] alone = refl
empty-kept places (Some running) (caller ∷ callers) alone = refl

-- where the last of a list isn't there, the list is empty
pub alone-is : {A : Type 0} (last : Option A) (others all : List A) (n : ℕ) → n ≡ length all
    → all ≡ others ++ option_to_list last
    → others ≡ take (n - 1) all → last ≡ None → others ≡ []
alone-is last [] all n many both front none = refl
alone-is last (x ∷ others) all n many both front none =
    let same : all ≡ (x ∷ others) ++ [] = both ∙ ap (λ o. (x ∷ others) ++ option_to_list o) none in
    let cut = ap length front in
    let least = length-take (n - 1) all in
    let count = ap length same in
    let ends = length-append (x ∷ others) [] in
    absurd (omega (arith, many, cut, least, count, ends))

-- the last of the frames that were read runs, and those before it are its callers
pub restored-state : (places : List (List Entry)) (running : Option Kept) (callers kept : List Kept) (in_hand : Bool)
    (globals others : List (List ℤ))
    → kept ≡ callers ++ option_to_list running → (running ≡ None → callers ≡ []) → globals ≡ others
    → with_globals in_hand (map (frame_seen places) kept) globals
    ≡ record {
      globals = others;
      frames = frames_seen places running callers;
      in_hand = in_hand;
      awaits = false;
      ended = is_none running;
    }
restored-state places running callers kept in_hand globals others all alone same =
    let turn = ap (λ (ks : List Kept). reverse (map (frame_seen places) ks)) all
    ∙ frames-turned places running callers alone in
    let none = ap (λ (ks : List Kept). is_empty (map (frame_seen places) ks)) all
    ∙ empty-kept places running callers alone in
    λ i. record { globals = same i; frames = turn i; in_hand = in_hand; awaits = false; ended = none i }

-- a list that was written over one of as many
pub written-back : {A : Type 0} (n : ℕ) (new old : List A) → n ≡ length old → length new ≡ length old
    → take n (new ++ drop (length new) old) ≡ new
written-back n new old first second =
    ap (λ (k : ℕ). take k (new ++ drop (length new) old)) (first ∙ sym second)
    ∙ take-append_seam new (drop (length new) old)
