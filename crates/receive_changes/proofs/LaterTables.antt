-- What taking and answering left of each opener's block, and that the change to it gives it back.
use Rattle.std.proofs.Common.{◌≡◌, ℕ, suc, ◌+◌, ◌-◌, ◌<◌, ◌≤◌, ◌==◌, ℤ, Bool, true, false, if◌then◌else◌, List}
use Rattle.std.proofs.Common.{[], ◌∷◌, ◌++◌, length, Option, Some, None, refl, ap, ap₂, sym, subst, ◌∙◌, arith}
use Rattle.std.proofs.Common.{slice_get}
use Rattle.std.proofs.Common.{slice_set, append-nil, append_assoc, length-append}
use Rattle.std.specs.Prelude.{nat_le}
use Rattle.std.specs.Cmp.Derive.{both_true}
use Rattle.std.proofs.lemmas.Bool.{eqb-true, eqb-false, leb-true, le-leb, ltb-true}
use Rattle.std.proofs.lemmas.List.{nil_from_length, set_at, length-set}
use Rattle.std.proofs.Math.Seq.{append_snoc}
use Rattle.sync_ids.specs.checkpoint_image.specs.Receive.{after_answering, after_taking, answered, is_place, last_ones}
use Rattle.sync_ids.specs.checkpoint_image.specs.declared.receive.OpenerBlock.{OpenerBlock}
use Rattle.sync_ids.specs.checkpoint_image.specs.declared.receive.ReceiveBlock.{ReceiveBlock}
use Rattle.sync_ids.specs.Tables.{Remembered, are_of_depths, can_hold, fits, is_unanswered}
use Rattle.sync_ids.proofs.Tables.{and-left, and-right, depth-at, lengths}
use Rattle.sync_ids.specs.Changes.{add_few, adds_few, change_at, change_between, table_with_change, changes_from}
use Rattle.sync_ids.specs.Changes.{fits_change, is_untouched, put_at, put_in, with_changes}
use Rattle.receive_changes.specs.Later.{ComesTo, Same, Taken, Answered}
use Rattle.sync_ids.specs.declared.change.OpenerChange.{OpenerChange}
use Rattle.sync_ids.proofs.Lists.{get-set_same, get-set_other, get-seam, last_few, last-length, last-shorter}
use Rattle.sync_ids.proofs.Lists.{last_again, last_onto, last-added}

-- One opener

-- what was answered to an opener since: the replies, which are kept behind those that were, as many as its depth
pub record Since (depth : ℕ) (before : Bool) (old : OpenerBlock) (now : Bool) (new : OpenerBlock) : Type 0 where
  pub added : List (List ℤ)
  pub count : answered now new ≡ answered before old + length added
  pub kept : new.kept ≡ last_ones depth (old.kept ++ added)
  pub some : now ≡ true → 1 ≤ new.taken

since-same : (depth : ℕ) (held : Bool) (block : OpenerBlock) → length block.kept ≤ depth
    → (held ≡ true → 1 ≤ block.taken) → Since depth held block held block
since-same depth held block few some = record {
  added = [];
  count = omega arith;
  kept = sym (ap (last_ones depth) (append-nil block.kept) ∙ last_few depth block.kept few);
  some = some;
}

since-taken : (depth : ℕ) (before : Bool) (old new : OpenerBlock) → Since depth before old false new
    → Since depth before old true (record new { taken = new.taken + 1 })
since-taken depth before old new since = record {
  added = since.added;
  count = (let same : new.taken ≡ answered before old + length since.added = since.count in omega (arith, same));
  kept = since.kept;
  some = λ held. omega arith;
}

since-answered : (depth : ℕ) (before : Bool) (old new : OpenerBlock) (words : List ℤ) → Since depth before old true new
    → Since depth before old false (record new { kept = last_ones depth (new.kept ++ words ∷ []) })
since-answered depth before old new words since = record {
  added = since.added ++ words ∷ [];
  count = (
      let same : new.taken - 1 ≡ answered before old + length since.added = since.count in
      omega (arith, same, since.some refl, length-append since.added (words ∷ []))
      );
  kept = ap (λ (ks : List (List ℤ)). last_ones depth (ks ++ words ∷ [])) since.kept
      ∙ last_again depth (old.kept ++ since.added) (words ∷ [])
      ∙ ap (last_ones depth) (append_assoc old.kept since.added (words ∷ []));
  some = λ held. absurd (cc);
}

-- the change gives the later block
since-put : (depth place : ℕ) (before now : Bool) (old new : OpenerBlock) → Since depth before old now new
    → put_in depth old (change_at before now place old new) ≡ new
since-put depth place before now old new since =
    let count : answered now new - answered before old ≡ length since.added = omega (arith, since.count) in
    ap (λ (ks : List (List ℤ)). record { taken = new.taken; kept = ks })
    (ap (λ (n : ℕ). last_ones depth (old.kept ++ last_ones n new.kept)) count
    ∙ ap (λ (ks : List (List ℤ)). last_ones depth (old.kept ++ last_ones (length since.added) ks)) since.kept
    ∙ ap (λ (ks : List (List ℤ)). last_ones depth (old.kept ++ ks)) (last-added depth old.kept since.added)
    ∙ last_onto depth old.kept since.added ∙ sym since.kept)

-- a block that wasn't touched is the same
since-untouched : (depth : ℕ) (before now : Bool) (old new : OpenerBlock) → length old.kept ≤ depth
    → Since depth before old now new → is_untouched before now old new ≡ true → old ≡ new
since-untouched depth before now old new few since is =
    let taken : old.taken ≡ new.taken =
    eqb-true old.taken new.taken
    (and-left (old.taken == new.taken) (answered before old == answered now new) is) in
    let same : answered before old ≡ answered now new =
    eqb-true (answered before old) (answered now new)
    (and-right (old.taken == new.taken) (answered before old == answered now new) is) in
    let none : since.added ≡ [] = nil_from_length since.added (omega (arith, since.count, same)) in
    ap₂ (λ (n : ℕ) (ks : List (List ℤ)). record { taken = n; kept = ks }) taken
    (sym (since.kept ∙ ap (λ (ks : List (List ℤ)). last_ones depth (old.kept ++ ks)) none
    ∙ ap (last_ones depth) (append-nil old.kept) ∙ last_few depth old.kept few))

-- All openers

-- what taking and answering left of a table
record TableSince (depths : List ℕ) (base table : ReceiveBlock) : Type 0 where
  pub count : length table.openers ≡ length base.openers
  pub each : (k depth : ℕ) (old new : OpenerBlock) → slice_get depths k ≡ Some depth
      → slice_get base.openers k ≡ Some old → slice_get table.openers k ≡ Some new
      → Since depth (is_place base.in_hand k) old (is_place table.in_hand k) new

table-taken : (depths : List ℕ) (base table : ReceiveBlock) (place : ℕ) (block : OpenerBlock)
    → TableSince depths base table → table.in_hand ≡ None → slice_get table.openers place ≡ Some block
    → TableSince depths base (after_taking place block table)
table-taken depths base table place block since none at =
    let next : OpenerBlock = record block { taken = block.taken + 1 } in record {
      count = length-set table.openers place next ∙ since.count;
      each = λ k depth old new of was is. each k depth old new of was is (place == k) refl;
    }
  where
    each : (k depth : ℕ) (old new : OpenerBlock) → slice_get depths k ≡ Some depth
        → slice_get base.openers k ≡ Some old
        → slice_get (slice_set table.openers place (record block { taken = block.taken + 1 })) k ≡ Some new
        → (b : Bool) → (place == k) ≡ b → Since depth (is_place base.in_hand k) old b new
    each k depth old new of was is true eq =
        let same : place ≡ k = eqb-true place k eq in
        let next : OpenerBlock = record block { taken = block.taken + 1 } in
        let found : Some next ≡ Some new =
        sym (get-set_same table.openers place block next at) ∙ ap (slice_get (slice_set table.openers place next)) same
        ∙ is in
        let one : next ≡ new = cc in
        subst (λ (b : OpenerBlock). Since depth (is_place base.in_hand k) old true b) one
        (since-taken depth (is_place base.in_hand k) old block
        (subst (λ (h : Bool). Since depth (is_place base.in_hand k) old h block)
        (ap (λ (h : Option ℕ). is_place h k) none)
        (since.each k depth old block of was (ap (slice_get table.openers) (sym same) ∙ at))))
    each k depth old new of was is false eq =
        let next : OpenerBlock = record block { taken = block.taken + 1 } in
        subst (λ (h : Bool). Since depth (is_place base.in_hand k) old h new)
        (ap (λ (h : Option ℕ). is_place h k) none)
        (since.each k depth old new of was
        (sym (get-set_other table.openers place k next (eqb-false place k eq)) ∙ is))

table-answered : (depths : List ℕ) (base table : ReceiveBlock) (place : ℕ) (block : OpenerBlock) (depth : ℕ)
    (words : List ℤ)
    → TableSince depths base table → table.in_hand ≡ Some place → slice_get table.openers place ≡ Some block
    → slice_get depths place ≡ Some depth → TableSince depths base (after_answering depth place block words table)
table-answered depths base table place block deep words since held at of_place = record {
  count = length-set table.openers place (record block { kept = last_ones deep (block.kept ++ words ∷ []) })
      ∙ since.count;
  each = λ k depth old new of was is. each k depth old new of was is (place == k) refl;
}
  where
    each : (k depth : ℕ) (old new : OpenerBlock) → slice_get depths k ≡ Some depth
        → slice_get base.openers k ≡ Some old
        → slice_get (slice_set table.openers place
        (record block { kept = last_ones deep (block.kept ++ words ∷ []) })) k
        ≡ Some new
        → (b : Bool) → (place == k) ≡ b → Since depth (is_place base.in_hand k) old false new
    each k depth old new of was is true eq =
        let same : place ≡ k = eqb-true place k eq in
        let next : OpenerBlock = record block { kept = last_ones deep (block.kept ++ words ∷ []) } in
        let found : Some next ≡ Some new =
        sym (get-set_same table.openers place block next at) ∙ ap (slice_get (slice_set table.openers place next)) same
        ∙ is in
        let one : next ≡ new = cc in
        let depths_same : Some deep ≡ Some depth = sym of_place ∙ ap (slice_get depths) same ∙ of in
        let deep_same : deep ≡ depth = cc in
        subst (λ (b : OpenerBlock). Since depth (is_place base.in_hand k) old false b)
        (ap (λ (d : ℕ). record block { kept = last_ones d (block.kept ++ words ∷ []) }) (sym deep_same) ∙ one)
        (since-answered depth (is_place base.in_hand k) old block words
        (subst (λ (h : Bool). Since depth (is_place base.in_hand k) old h block)
        (ap (λ (h : Option ℕ). is_place h k) held ∙ eq)
        (since.each k depth old block of was (ap (slice_get table.openers) (sym same) ∙ at))))
    each k depth old new of was is false eq =
        let next : OpenerBlock = record block { kept = last_ones deep (block.kept ++ words ∷ []) } in
        subst (λ (h : Bool). Since depth (is_place base.in_hand k) old h new)
        (ap (λ (h : Option ℕ). is_place h k) held ∙ eq)
        (since.each k depth old new of was
        (sym (get-set_other table.openers place k next (eqb-false place k eq)) ∙ is))

few-kept : (depths : List ℕ) (openers : List OpenerBlock) (k depth : ℕ) (old : OpenerBlock)
    → are_of_depths openers depths ≡ true → slice_get depths k ≡ Some depth → slice_get openers k ≡ Some old
    → length old.kept ≤ depth
few-kept depths openers k depth old are of was =
    leb-true (length old.kept) depth
    (and-left (nat_le (length old.kept) depth) (nat_le (length old.kept) old.taken)
    (depth-at openers depths k old depth are was of))

some-taken : (openers : List OpenerBlock) (in_hand : Option ℕ) (k : ℕ) (old : OpenerBlock)
    → can_hold openers in_hand ≡ true → slice_get openers k ≡ Some old → is_place in_hand k ≡ true → 1 ≤ old.taken
some-taken openers None k old can was held = absurd (cc)
some-taken openers (Some place) k old can was held =
    let same : place ≡ k = eqb-true place k held in
    let fewer : length old.kept < old.taken =
    ltb-true (length old.kept) old.taken
    (sym (ap is_unanswered (ap (slice_get openers) same ∙ was)) ∙ can) in
    omega (arith, fewer)

table-same : (earlier : Remembered) → fits earlier earlier.table ≡ true
    → TableSince earlier.depths earlier.table earlier.table
table-same earlier sound =
    let openers = earlier.table.openers in
    let are : are_of_depths openers earlier.depths ≡ true =
    and-left (are_of_depths openers earlier.depths) (can_hold openers earlier.table.in_hand) sound in
    let can : can_hold openers earlier.table.in_hand ≡ true =
    and-right (are_of_depths openers earlier.depths) (can_hold openers earlier.table.in_hand) sound in record {
      count = refl;
      each = λ k depth old new of was is.
          let found : Some old ≡ Some new = sym was ∙ is in
          let one : old ≡ new = cc in
          subst (λ (b : OpenerBlock). Since depth (is_place earlier.table.in_hand k) old
          (is_place earlier.table.in_hand k) b) one
          (since-same depth (is_place earlier.table.in_hand k) old
          (few-kept earlier.depths openers k depth old are of was)
          (some-taken openers earlier.table.in_hand k old can was));
    }

comes-since : (earlier : Remembered) (later : ReceiveBlock) → fits earlier earlier.table ≡ true
    → ComesTo earlier.depths earlier.table later → TableSince earlier.depths earlier.table later
comes-since earlier later sound Same = table-same earlier sound
comes-since earlier later sound (Taken table place block came none at) =
    table-taken earlier.depths earlier.table table place block (comes-since earlier table sound came) none at
comes-since earlier later sound (Answered table place block depth words came held at of) =
    table-answered earlier.depths earlier.table table place block depth words (comes-since earlier table sound came)
    held at of

-- The changes are put in

abbrev Apart : Option ℕ → Option ℕ → ℕ → List ℕ → List OpenerBlock → List OpenerBlock → Type 0
Apart before now place depths olds news =
    (k m depth : ℕ) (old new : OpenerBlock) → m ≡ place + k → slice_get depths k ≡ Some depth
    → slice_get olds k ≡ Some old → slice_get news k ≡ Some new
    → Since depth (is_place before m) old (is_place now m) new × (length old.kept ≤ depth)

rest-apart : (before now : Option ℕ) (place depth : ℕ) (depths : List ℕ) (old new : OpenerBlock)
    (olds news : List OpenerBlock) → Apart before now place (depth ∷ depths) (old ∷ olds) (new ∷ news)
    → Apart before now (place + 1) depths olds news
rest-apart before now place depth depths old new olds news each =
    λ k m d o n is of was found. each (suc k) m d o n (omega (arith, is)) of was found

all-put : (before now : Option ℕ) (place : ℕ) (over : List ℕ) (done : List OpenerBlock) (depths : List ℕ)
    (olds news : List OpenerBlock)
    → length over ≡ place → length done ≡ place → length olds ≡ length depths → length news ≡ length olds
    → Apart before now place depths olds news
    → with_changes (over ++ depths) (done ++ olds) (changes_from before now place olds news) ≡ done ++ news
all-put before now place over done depths [] [] past gone many as_many each = refl
all-put before now place over done depths [] (new ∷ news) past gone many as_many each = absurd (omega (arith, as_many))
all-put before now place over done depths (old ∷ olds) [] past gone many as_many each = absurd (omega (arith, as_many))
all-put before now place over done [] (old ∷ olds) (new ∷ news) past gone many as_many each =
    absurd (omega (arith, many))
all-put before now place over done (depth ∷ depths) (old ∷ olds) (new ∷ news) past gone many as_many each =
    by (is_untouched (is_place before place) (is_place now place) old new) refl
    (ap₂ (λ (ds : List ℕ) (bs : List OpenerBlock). with_changes ds bs
    (changes_from before now (place + 1) olds news))
    (sym (append_snoc over depth depths)) (sym (append_snoc done new olds))
    ∙ all-put before now (place + 1) (over ++ depth ∷ []) (done ++ new ∷ []) depths olds news
    (omega (arith, length-append over (depth ∷ []), past)) (omega (arith, length-append done (new ∷ []), gone))
    (omega (arith, many)) (omega (arith, as_many))
    (rest-apart before now place depth depths old new olds news each)
    ∙ append_snoc done new news)
  where
    one : Since depth (is_place before place) old (is_place now place) new × (length old.kept ≤ depth)
    one = each 0 place depth old new (omega arith) refl refl refl

    by : (b : Bool) → is_untouched (is_place before place) (is_place now place) old new ≡ b
        → with_changes (over ++ depth ∷ depths) (done ++ new ∷ olds) (changes_from before now (place + 1) olds news)
        ≡ done ++ new ∷ news
        → with_changes (over ++ depth ∷ depths) (done ++ old ∷ olds)
        (if b then changes_from before now (place + 1) olds news else
        change_at (is_place before place) (is_place now place) place old new
        ∷ changes_from before now (place + 1) olds news)
        ≡ done ++ new ∷ news
    by true is more =
        ap (λ (b : OpenerBlock). with_changes (over ++ depth ∷ depths) (done ++ b ∷ olds)
        (changes_from before now (place + 1) olds news))
        (since-untouched depth (is_place before place) (is_place now place) old new one.1 one.0 is) ∙ more
    by false is more =
        let change : OpenerChange = change_at (is_place before place) (is_place now place) place old new in
        let blocks : List OpenerBlock = done ++ old ∷ olds in
        ap (λ (bs : List OpenerBlock). with_changes (over ++ depth ∷ depths) bs
        (changes_from before now (place + 1) olds news))
        (ap₂ (λ (d : Option ℕ) (b : Option OpenerBlock). put_at d b change blocks)
        (get-seam over depth depths place past) (get-seam done old olds place gone)
        ∙ ap (slice_set blocks place)
        (since-put depth place (is_place before place) (is_place now place) old new one.0)
        ∙ set_at done old olds new place gone) ∙ more

all-few : (before now : Option ℕ) (place least : ℕ) (over : List ℕ) (depths : List ℕ) (olds news : List OpenerBlock)
    → least ≤ place → length over ≡ place → length olds ≡ length depths → length news ≡ length olds
    → Apart before now place depths olds news
    → add_few (over ++ depths) least (changes_from before now place olds news) ≡ true
all-few before now place least over depths [] news low past many as_many each = refl
all-few before now place least over depths (old ∷ olds) [] low past many as_many each = refl
all-few before now place least over [] (old ∷ olds) (new ∷ news) low past many as_many each =
    absurd (omega (arith, many))
all-few before now place least over (depth ∷ depths) (old ∷ olds) (new ∷ news) low past many as_many each =
    by (is_untouched (is_place before place) (is_place now place) old new)
    (λ (least : ℕ) (below : least ≤ place + 1).
    ap (λ (ds : List ℕ). add_few ds least (changes_from before now (place + 1) olds news))
    (sym (append_snoc over depth depths))
    ∙ all-few before now (place + 1) least (over ++ depth ∷ []) depths olds news below
    (omega (arith, length-append over (depth ∷ []), past)) (omega (arith, many)) (omega (arith, as_many))
    (rest-apart before now place depth depths old new olds news each))
  where
    one : Since depth (is_place before place) old (is_place now place) new × (length old.kept ≤ depth)
    one = each 0 place depth old new (omega arith) refl refl refl

    few : length (change_at (is_place before place) (is_place now place) place old new).added ≤ depth
    few =
        let count : ℕ = answered (is_place now place) new - answered (is_place before place) old in
        let kept : length new.kept ≤ depth =
        subst (λ (ks : List (List ℤ)). length ks ≤ depth) (sym one.0.kept)
        (last-length depth (old.kept ++ one.0.added)) in
        omega (arith, last-shorter count new.kept, kept)

    by : (b : Bool)
        → ((least : ℕ) → least ≤ place + 1
        → add_few (over ++ depth ∷ depths) least (changes_from before now (place + 1) olds news) ≡ true)
        → add_few (over ++ depth ∷ depths) least
        (if b then changes_from before now (place + 1) olds news else
        change_at (is_place before place) (is_place now place) place old new
        ∷ changes_from before now (place + 1) olds news)
        ≡ true
    by true more = more least (omega (arith, low))
    by false more =
        let change : OpenerChange = change_at (is_place before place) (is_place now place) place old new in
        both_true (le-leb least place low)
        (both_true
        (ap (λ (d : Option ℕ). adds_few d change) (get-seam over depth depths place past)
        ∙ le-leb (length change.added) depth few)
        (more (place + 1) (omega arith)))

-- The law

openers-apart : (earlier : Remembered) (later : ReceiveBlock) → fits earlier earlier.table ≡ true
    → TableSince earlier.depths earlier.table later
    → Apart earlier.table.in_hand later.in_hand 0 earlier.depths earlier.table.openers later.openers
openers-apart earlier later sound since =
    let openers = earlier.table.openers in
    let are : are_of_depths openers earlier.depths ≡ true =
    and-left (are_of_depths openers earlier.depths) (can_hold openers earlier.table.in_hand) sound in
    λ k m depth old new is of was found. (
      subst (λ (n : ℕ). Since depth (is_place earlier.table.in_hand n) old (is_place later.in_hand n) new)
          (let same : k ≡ m = omega (arith, is) in same)
          (since.each k depth old new of was found),
      few-kept earlier.depths openers k depth old are of was,
    )

pub later-gives : (earlier : Remembered) (later : ReceiveBlock) → fits earlier earlier.table ≡ true
    → ComesTo earlier.depths earlier.table later
    → table_with_change earlier.depths earlier.table (change_between earlier.table later) ≡ later
later-gives earlier later sound came =
    let openers = earlier.table.openers in
    let since = comes-since earlier later sound came in
    let are : are_of_depths openers earlier.depths ≡ true =
    and-left (are_of_depths openers earlier.depths) (can_hold openers earlier.table.in_hand) sound in
    ap (λ (bs : List OpenerBlock). record { openers = bs; in_hand = later.in_hand })
    (all-put earlier.table.in_hand later.in_hand 0 [] [] earlier.depths openers later.openers refl refl
    (lengths openers earlier.depths are) since.count (openers-apart earlier later sound since))

pub later-fits : (earlier : Remembered) (later : ReceiveBlock) → fits earlier earlier.table ≡ true
    → ComesTo earlier.depths earlier.table later → fits earlier later ≡ true
    → fits_change earlier (change_between earlier.table later) ≡ true
later-fits earlier later sound came fitting =
    let openers = earlier.table.openers in
    let since = comes-since earlier later sound came in
    let are : are_of_depths openers earlier.depths ≡ true =
    and-left (are_of_depths openers earlier.depths) (can_hold openers earlier.table.in_hand) sound in
    both_true
    (all-few earlier.table.in_hand later.in_hand 0 0 [] earlier.depths openers later.openers (omega arith) refl
    (lengths openers earlier.depths are) since.count (openers-apart earlier later sound since))
    (ap (fits earlier) (later-gives earlier later sound came) ∙ fitting)
