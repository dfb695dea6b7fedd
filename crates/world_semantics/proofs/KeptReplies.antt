-- The replies that a receive table keeps were sent.
use Rattle.std.proofs.Common.{◌≡◌, ◌≤◌, ℕ, zero, suc, ◌+◌, ◌-◌, ◌==◌, ℤ, Bool, true, false, if◌then◌else◌, nat_le}
use Rattle.std.proofs.Common.{nat_lt, ◌&&◌, ◌⊎◌, inl, inr, List, [], ◌∷◌, ◌++◌, map, length, take, drop, reverse}
use Rattle.std.proofs.Common.{Option, Some, None, slice_get, refl, subst, sym, ap, ◌∙◌, arith, append-nil}
use Rattle.std.proofs.lemmas.Bool.{eq-eqb, eqb-true, le-leb, leb-true}
use Rattle.std.proofs.lemmas.List.{reverse-append, take-append-drop}
use Rattle.checkpoint_image.specs.gd_words.specs.Members.{IsAmong}
use Rattle.checkpoint_image.specs.gd_words.specs.declared.message.Request.{Request}
use Rattle.checkpoint_image.specs.gd_words.specs.declared.message.Reply.{Reply}
use Rattle.checkpoint_image.specs.tal_tree.specs.declared.site.OpenerSpec.{OpenerSpec}
use Rattle.checkpoint_image.specs.declared.receive.OpenerBlock.{OpenerBlock}
use Rattle.checkpoint_image.specs.declared.receive.ReceiveBlock.{ReceiveBlock}
use Rattle.checkpoint_image.specs.declared.receive.RequestStanding.{RequestStanding}
use Rattle.checkpoint_image.specs.declared.receive.RequestStanding.TheVariants.{Next, InHand, Kept, Old, Ahead}
use Rattle.checkpoint_image.specs.Receive.{is_place, holds, answered, reply_kept, kept_or_old, standing_in, standing_by}
use Rattle.checkpoint_image.specs.Receive.{request_standing, after_taking, after_answering, last_ones, repeated_by}
use Rattle.checkpoint_image.specs.Receive.{reply_sent_again}
use Rattle.world_semantics.specs.Laws.{HasGrown}
use Rattle.world_semantics.proofs.Lists.{some-same, Changed, is_new, is_same, changed}
use Rattle.checkpoint_image.specs.gd_words.proofs.Among.{among-right}

-- the replies that one block of a table keeps, where its opener's request is in hand or not, were sent
abbrev BlockSent : ℕ → List Reply → ℕ → Bool → OpenerBlock → Type 0
BlockSent number replies place held block =
    (n : ℕ) (words : List ℤ) → reply_kept (answered held block) block.kept n ≡ Some words
    → IsAmong (record { process = number; opener = place; number = n; words = words }) replies

-- all replies that a table keeps were sent
abbrev pub KeptSent : ℕ → List Reply → ReceiveBlock → Type 0
KeptSent number replies table =
    (place : ℕ) (block : OpenerBlock) → slice_get table.openers place ≡ Some block
    → BlockSent number replies place (holds table place) block

pub kept-more : (number : ℕ) (replies more : List Reply) (table : ReceiveBlock) → HasGrown replies more
    → KeptSent number replies table → KeptSent number more table
kept-more number replies more table grown ok place block there n words e =
    subst (λ all. IsAmong (record { process = number; opener = place; number = n; words = words }) all) (sym grown.1)
    (among-right _ grown.0 replies (ok place block there n words e))

-- Beginning

none-in-nothing : (n : ℕ) (words : List ℤ) → slice_get [] n ≡ Some words → ⊥
none-in-nothing n words e = cc

begin-block : (number : ℕ) (place : ℕ) (block : OpenerBlock) → block.kept ≡ [] → BlockSent number [] place false block
begin-block number place block empty n words e =
    absurd (begin-none block.taken n words (ap (λ kept. reply_kept block.taken kept n) (sym empty) ∙ e))
  where
    begin-none : (last n : ℕ) (words : List ℤ) → reply_kept last [] n ≡ Some words → ⊥
    begin-none last n words e = by-test (nat_le n last) e
      where
        by-test : (test : Bool) → (if test then slice_get (reverse []) (last - n) else None) ≡ Some words → ⊥
        by-test true e = none-in-nothing (last - n) words e
        by-test false e = cc

begin-kept : (openers : List OpenerSpec) (place : ℕ) (block : OpenerBlock)
    → slice_get (map (λ (opener : OpenerSpec). record { taken = 0; kept = [] }) openers) place ≡ Some block
    → block.kept ≡ []
begin-kept [] place block e = absurd (cc)
begin-kept (opener ∷ openers) zero block e = ap (λ (b : OpenerBlock). b.kept) (sym (some-same e))
begin-kept (opener ∷ openers) (suc place) block e = begin-kept openers place block e

pub kept-begin : (number : ℕ) (openers : List OpenerSpec)
    → KeptSent number [] (record { openers = map (λ opener. record { taken = 0; kept = [] }) openers; in_hand = None })
kept-begin number openers place block there = begin-block number place block (begin-kept openers place block there)

-- whatever was sent
pub kept-nothing : (number : ℕ) (openers : List OpenerSpec) (replies : List Reply)
    → KeptSent number replies
    (record { openers = map (λ opener. record { taken = 0; kept = [] }) openers; in_hand = None })
kept-nothing number openers replies =
    kept-more number [] replies (record
    { openers = map (λ opener. record { taken = 0; kept = [] }) openers; in_hand = None })
    (replies, sym (append-nil replies)) (kept-begin number openers)

other-held : (place at : ℕ) → (place ≡ at → ⊥) → is_place (Some place) at ≡ false
other-held place at n = by-test (place == at) refl
  where
    by-test : (test : Bool) → (place == at) ≡ test → test ≡ false
    by-test true e = absurd (n (eqb-true place at e))
    by-test false e = refl

-- Taking

pub kept-taking : (number : ℕ) (replies : List Reply) (place : ℕ) (block : OpenerBlock) (table : ReceiveBlock)
    → table.in_hand ≡ None
    → slice_get table.openers place ≡ Some block → KeptSent number replies table
    → KeptSent number replies (after_taking place block table)
kept-taking number replies place block table free there ok at new e =
    of (changed table.openers place (record block { taken = block.taken + 1 }) at new e)
  where
    before : (at : ℕ) (old : OpenerBlock) → slice_get table.openers at ≡ Some old
        → BlockSent number replies at false old
    before at old there = subst (λ hand. BlockSent number replies at (is_place hand at) old) free (ok at old there)

    same : BlockSent number replies place false block
        → BlockSent number replies place true (record block { taken = block.taken + 1 })
    same sent n words e = let last : (block.taken + 1) - 1 ≡ block.taken = omega arith in
        sent n words (subst (λ k. reply_kept k block.kept n ≡ Some words) last e)

    of : Changed table.openers place (record block { taken = block.taken + 1 }) at new
        → BlockSent number replies at (is_place (Some place) at) new
    of (is_new here is) =
        let held : is_place (Some place) at ≡ true = eq-eqb place at here in
        rw (held, is) (subst (λ p. BlockSent number replies p true (record block { taken = block.taken + 1 })) here
        (same (before place block there)))
    of (is_same n old) = let held = other-held place at n in rw held (before at new old)

-- Answering

get-append : {A : Type 0} (xs ys : List A) (k : ℕ) (x : A) → slice_get xs k ≡ Some x → slice_get (xs ++ ys) k ≡ Some x
get-append [] ys k x e = absurd (cc)
get-append (y ∷ xs) ys zero x e = e
get-append (y ∷ xs) ys (suc k) x e = get-append xs ys k x e

-- what stands among the last ones, counted from the end, stands there in the whole list
last-get : {A : Type 0} (d : ℕ) (xs : List A) (k : ℕ) (x : A) → slice_get (reverse (last_ones d xs)) k ≡ Some x
    → slice_get (reverse xs) k ≡ Some x
last-get d xs k x e =
    let i = length xs - d in
    let split : reverse xs ≡ reverse (drop i xs) ++ reverse (take i xs) =
    ap reverse (sym (take-append-drop i xs)) ∙ reverse-append (take i xs) (drop i xs) in
    subst (λ l. slice_get l k ≡ Some x) (sym split) (get-append (reverse (drop i xs)) (reverse (take i xs)) k x e)

kept-test : (last n : ℕ) (kept : List (List ℤ)) (words : List ℤ) → reply_kept last kept n ≡ Some words
    → (n ≤ last) × (slice_get (reverse kept) (last - n) ≡ Some words)
kept-test last n kept words e = by-test (nat_le n last) refl e
  where
    by-test : (test : Bool) → nat_le n last ≡ test
        → (if test then slice_get (reverse kept) (last - n) else None) ≡ Some words
        → (n ≤ last) × (slice_get (reverse kept) (last - n) ≡ Some words)
    by-test true t e = (leb-true n last t, e)
    by-test false t e = absurd (cc)

kept-of : (last n : ℕ) (kept : List (List ℤ)) (words : List ℤ) → n ≤ last
    → slice_get (reverse kept) (last - n) ≡ Some words → reply_kept last kept n ≡ Some words
kept-of last n kept words l e = let t = le-leb n last l in rw t e

answered-block : (number : ℕ) (replies : List Reply) (place depth : ℕ) (block : OpenerBlock) (words : List ℤ)
    → BlockSent number replies place true block
    → BlockSent number (record { process = number; opener = place; number = block.taken; words = words } ∷ replies)
    place false
    (record block { kept = last_ones depth (block.kept ++ words ∷ []) })
answered-block number replies place depth block words sent n found e =
    let k = kept-test block.taken n (last_ones depth (block.kept ++ words ∷ [])) found e in
    let whole = last-get depth (block.kept ++ words ∷ []) (block.taken - n) found k.1 in
    at (block.taken - n) refl (subst (λ l. slice_get l (block.taken - n) ≡ Some found)
    (reverse-append block.kept (words ∷ [])) whole) k.0
  where
    at : (i : ℕ) → block.taken - n ≡ i → slice_get (words ∷ reverse block.kept) i ≡ Some found → n ≤ block.taken
        → IsAmong (record { process = number; opener = place; number = n; words = found })
        (record { process = number; opener = place; number = block.taken; words = words } ∷ replies)
    at zero i e l =
        let same : n ≡ block.taken = omega (arith, i, l) in
        let is : words ≡ found = some-same e in
        inl (rw (same, sym is) refl)
    at (suc j) i e l =
        let less : n ≤ block.taken - 1 = omega (arith, i) in
        let back : (block.taken - 1) - n ≡ j = omega (arith, i) in
        inr (sent n found (kept-of (block.taken - 1) n block.kept found less (rw back e)))

pub kept-answering : (number : ℕ) (replies : List Reply) (place depth : ℕ) (block : OpenerBlock) (words : List ℤ)
    (table : ReceiveBlock)
    → table.in_hand ≡ Some place → slice_get table.openers place ≡ Some block → KeptSent number replies table
    → KeptSent number (record { process = number; opener = place; number = block.taken; words = words } ∷ replies)
    (after_answering depth place block words table)
kept-answering number replies place depth block words table held there ok at new e =
    of (changed table.openers place (record block { kept = last_ones depth (block.kept ++ words ∷ []) }) at new e)
  where
    before : (at : ℕ) (old : OpenerBlock) → slice_get table.openers at ≡ Some old
        → BlockSent number replies at (is_place (Some place) at) old
    before at old there = subst (λ hand. BlockSent number replies at (is_place hand at) old) held (ok at old there)

    of : Changed table.openers place (record block { kept = last_ones depth (block.kept ++ words ∷ []) }) at new
        → BlockSent number (record { process = number; opener = place; number = block.taken; words = words } ∷ replies)
        at false new
    of (is_new here is) =
        let mine : BlockSent number replies place true block =
        subst (λ h. BlockSent number replies place h block) (eq-eqb place place refl) (before place block there) in
        rw is (subst (λ p. BlockSent number (record
        { process = number; opener = place; number = block.taken; words = words } ∷ replies) p false
        (record block { kept = last_ones depth (block.kept ++ words ∷ []) })) here
        (answered-block number replies place depth block words mine))
    of (is_same n old) = λ m found k. inr (subst (λ h. BlockSent number replies at h new) (other-held place at n)
        (before at new old) m found k)

-- Sent again

standing-kept : (held : Bool) (block : OpenerBlock) (n : ℕ) (words : List ℤ) → standing_in held block n ≡ Kept words
    → reply_kept (answered held block) block.kept n ≡ Some words
standing-kept held block n words e = by-test (n == block.taken + 1) (nat_lt (block.taken + 1) n)
    (held && n == block.taken) (reply_kept (answered held block) block.kept n) e
  where
    by-test : (next ahead hand : Bool) (kept : Option (List ℤ))
        → (if next then Next else if ahead then Ahead else if hand then InHand else kept_or_old kept) ≡ Kept words
        → kept ≡ Some words
    by-test true ahead hand kept e = absurd (cc)
    by-test false true hand kept e = absurd (cc)
    by-test false false true kept e = absurd (cc)
    by-test false false false None e = absurd (cc)
    by-test false false false (Some found) e = kept-same e
      where
        kept-same : {one other : List ℤ} → Kept one ≡ Kept other → Some one ≡ Some other
        kept-same e = cc

block-kept : (held : Bool) (block : Option OpenerBlock) (n : ℕ) (words : List ℤ) → standing_by held block n ≡ Kept words
    → (b : OpenerBlock) × (block ≡ Some b) × (reply_kept (answered held b) b.kept n ≡ Some words)
block-kept held None n words e = absurd (cc)
block-kept held (Some block) n words e = (block, refl, standing-kept held block n words e)

-- the reply that is sent again was sent
pub repeated-sent : (replies : List Reply) (table : ReceiveBlock) (request : Request) (reply : Reply)
    → KeptSent request.process replies table
    → IsAmong reply (reply_sent_again table request) → IsAmong reply replies
repeated-sent replies table request reply ok i = by-standing (request_standing table request) refl i
  where
    one : (words : List ℤ) → request_standing table request ≡ Kept words
        → (reply ≡ record {
          process = request.process;
          opener = request.opener;
          number = request.number;
          words = words;
        }) ⊎ IsAmong reply []
        → IsAmong reply replies
    one words e (inl same) =
        let b = block-kept (holds table request.opener) (slice_get table.openers request.opener) request.number words
        e in
        rw same (ok request.opener b.0 b.1 request.number words b.2)
    one words e (inr i) = absurd i

    by-standing : (s : RequestStanding) → request_standing table request ≡ s → IsAmong reply (repeated_by request s)
        → IsAmong reply replies
    by-standing (Kept words) e i = one words e i
    by-standing Next e i = absurd i
    by-standing InHand e i = absurd i
    by-standing Old e i = absurd i
    by-standing Ahead e i = absurd i
