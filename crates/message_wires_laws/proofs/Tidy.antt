-- What is on the wires stays tidy.
use Rattle.std.proofs.Common.{◌≡◌, ◌<◌, ◌≤◌, ◌⊎◌, inl, inr, ℕ, zero, suc, ◌==◌, ◌||◌, nat_le, Bool, true, false, not}
use Rattle.std.proofs.Common.{if◌then◌else◌, List, [], ◌∷◌, ◌++◌, length, slice_set, refl, ap, sym, ◌∙◌, subst, arith}
use Rattle.std.specs.List.{filter, remove}
use Rattle.std.specs.Cmp.Derive.{both_true}
use Rattle.std.proofs.lemmas.Bool.{eqb-true, leb-true, le-leb}
use Rattle.std.proofs.lemmas.List.{map-append, append-nil, append_assoc}
use Rattle.gd_words.specs.Members.{IsAmong}
use Rattle.gd_words.proofs.Among.{among-either}
use Rattle.world_semantics.proofs.Members.{among-filter}
use Rattle.world_semantics.proofs.Roles.{both-true}
use Rattle.letters.specs.Routes.{Letter}
use Rattle.letters.specs.Posts.{IsTaken, is_from_or_to, takes_first, takes_later, without_those_of}
use Rattle.letters.proofs.Owed.{filter-among}
use Rattle.message_wires.specs.Wires.{Sent, Wires, has_room, put_on, wires_after_post, wires_after_posts, is_sending}
use Rattle.message_wires.specs.Wires.{without_number, paid, paid_between, without_packet, repeated_packet, is_due}
use Rattle.message_wires.specs.Wires.{put_again, wires_again, is_current, count_before, wires_after_reload}
use Rattle.message_wires.specs.Runs.{letters_in}
use Rattle.message_wires_laws.specs.Carried.{IsOn, AreTidy}

-- wires with fewer things on them
pub fewer-tidy : {wires next : Wires} {sent : List Letter} → next.count ≡ wires.count → next.before ≡ wires.before
    → ((one : Sent) → IsOn one next → IsOn one wires) → AreTidy wires sent
    → AreTidy next sent
fewer-tidy {sent = sent} same loads from tidy = record {
  given = λ one on. subst (λ n. one.number < n) (sym same) (tidy.given one (from one on));
  alike = λ one other on there e. tidy.alike one other (from one on) (from other there) e;
  loaded = λ node.
      (let was = tidy.loaded node in
      let before = ap (λ b. count_before b node) loads in
      omega (arith, was, before, same));
  known = λ one on present. tidy.known one (from one on) (ap (λ b. is_current b one) (sym loads) ∙ present);
}

-- more letters were sent
pub more-tidy : {wires : Wires} {sent more : List Letter}
    → ((letter : Letter) → IsAmong letter sent → IsAmong letter more) → AreTidy wires sent → AreTidy wires more
more-tidy up tidy = record {
  given = tidy.given;
  alike = tidy.alike;
  loaded = tidy.loaded;
  known = λ one on present. up one.letter (tidy.known one on present);
}

-- Buses

on-bus : (packet one : Sent) (bus : List Sent) → IsAmong one (put_on packet bus) → IsAmong one bus ⊎ (one ≡ packet)
on-bus packet one bus among = by (has_room bus) among
  where
    by : (room : Bool) → IsAmong one (if room then bus ++ packet ∷ [] else bus) → IsAmong one bus ⊎ (one ≡ packet)
    by true among = elim (among-either one bus (packet ∷ []) among) [
      | inl before ↦ inl before
      | inr now ↦ elim now [ inl same ↦ inr same | inr none ↦ absurd none ]
    ]
    by false among = inl among

among-remove : (one : Sent) (bus : List Sent) (k : ℕ) → IsAmong one (remove bus k) → IsAmong one bus
among-remove one [] zero among = absurd among
among-remove one [] (suc k) among = absurd among
among-remove one (packet ∷ bus) zero among = inr among
among-remove one (packet ∷ bus) (suc k) (inl same) = inl same
among-remove one (packet ∷ bus) (suc k) (inr among) = inr (among-remove one bus k among)

pub without-on : (k : ℕ) (wires : Wires) (one : Sent) → IsOn one (without_packet k wires) → IsOn one wires
without-on k wires one (inl there) = inl (among-remove one wires.bus k there)
without-on k wires one (inr owed) = inr owed

pub without-tidy : (k : ℕ) {wires : Wires} {sent : List Letter} → AreTidy wires sent
    → AreTidy (without_packet k wires) sent
without-tidy k {wires = wires} tidy = fewer-tidy refl refl (without-on k wires) tidy

pub repeated-on : (packet : Sent) (wires : Wires) → IsAmong packet wires.bus → (one : Sent)
    → IsOn one (repeated_packet packet wires) → IsOn one wires
repeated-on packet wires among one (inl there) =
    elim (on-bus packet one wires.bus there)
    [ inl before ↦ inl before | inr same ↦ inl (subst (λ (x : Sent). IsAmong x wires.bus) (sym same) among) ]
repeated-on packet wires among one (inr owed) = inr owed

pub repeated-tidy : (packet : Sent) {wires : Wires} {sent : List Letter} → IsAmong packet wires.bus
    → AreTidy wires sent → AreTidy (repeated_packet packet wires) sent
repeated-tidy packet {wires = wires} among tidy = fewer-tidy refl refl (repeated-on packet wires among) tidy

-- Putting again

again-from : (stopped : List Bool) (node : ℕ) (owed bus : List Sent) (one : Sent)
    → IsAmong one (put_again stopped node owed bus)
    → IsAmong one bus ⊎ IsAmong one owed
again-from stopped node [] bus one among = inl among
again-from stopped node (first ∷ rest) bus one among =
    by (is_due stopped node bus first) (again-from stopped node rest) among
  where
    by : (due : Bool) → ((bus : List Sent) (one : Sent) → IsAmong one (put_again stopped node rest bus)
        → IsAmong one bus ⊎ IsAmong one rest)
        → IsAmong one (put_again stopped node rest (if due then put_on first bus else bus))
        → IsAmong one bus ⊎ IsAmong one (first ∷ rest)
    by false from among = elim (from bus one among) [ inl before ↦ inl before | inr later ↦ inr (inr later) ]
    by true from among = elim (from (put_on first bus) one among) [
      | inl there ↦ elim (on-bus first one bus there) [ inl before ↦ inl before | inr same ↦ inr (inl same) ]
      | inr later ↦ inr (inr later)
    ]

pub again-on : (stopped : List Bool) (node : ℕ) (wires : Wires) (one : Sent)
    → IsOn one (wires_again stopped node wires) → IsOn one wires
again-on stopped node wires one (inl there) = again-from stopped node wires.owed wires.bus one there
again-on stopped node wires one (inr owed) = inr owed

pub again-tidy : (stopped : List Bool) (node : ℕ) {wires : Wires} {sent : List Letter} → AreTidy wires sent
    → AreTidy (wires_again stopped node wires) sent
again-tidy stopped node {wires = wires} tidy = fewer-tidy refl refl (again-on stopped node wires) tidy

-- Paying

among-without : (number : ℕ) (owed : List Sent) (one : Sent) → IsAmong one (without_number number owed)
    → IsAmong one owed
among-without number [] one among = absurd among
among-without number (first ∷ rest) one among = by (is_sending number first) (among-without number rest one) among
  where
    by : (test : Bool) → (IsAmong one (without_number number rest) → IsAmong one rest)
        → IsAmong one (if test then rest else first ∷ without_number number rest) → IsAmong one (first ∷ rest)
    by true up among = inr among
    by false up (inl same) = inl same
    by false up (inr among) = inr (up among)

pub paid-on : (number : ℕ) (wires : Wires) (one : Sent) → IsOn one (paid number wires) → IsOn one wires
paid-on number wires one (inl there) = inl there
paid-on number wires one (inr owed) = inr (among-without number wires.owed one owed)

pub paid-tidy : (number : ℕ) {wires : Wires} {sent : List Letter} → AreTidy wires sent
    → AreTidy (paid number wires) sent
paid-tidy number {wires = wires} tidy = fewer-tidy refl refl (paid-on number wires) tidy

pub between-on : (node processor : ℕ) (wires : Wires) (one : Sent) → IsOn one (paid_between node processor wires)
    → IsOn one wires
between-on node processor wires one (inl there) = inl there
between-on node processor wires one (inr owed) = inr (among-filter one _ wires.owed owed).0

pub between-tidy : (node processor : ℕ) {wires : Wires} {sent : List Letter} → AreTidy wires sent
    → AreTidy (paid_between node processor wires) sent
between-tidy node processor {wires = wires} tidy = fewer-tidy refl refl (between-on node processor wires) tidy

-- a letter of this number was owed, or nothing of this number was
pub data Pays (number : ℕ) (owed : List Sent) : Type 0 where
  was_owed : (one : Sent) → IsAmong one owed → one.number ≡ number
      → IsTaken one.letter (letters_in owed) (letters_in (without_number number owed)) → Pays number owed
  was_paid : without_number number owed ≡ owed → Pays number owed

pub pays : (number : ℕ) (owed : List Sent) → Pays number owed
pays number [] = was_paid refl
pays number (first ∷ rest) = by (is_sending number first) refl (pays number rest)
  where
    later : is_sending number first ≡ false → Pays number rest → Pays number (first ∷ rest)
    later e (was_owed one among same taken) =
        let whole : first ∷ without_number number rest ≡ without_number number (first ∷ rest) = rw e refl in
        was_owed one (inr among) same
        (subst (λ (xs : List Sent). IsTaken one.letter (letters_in (first ∷ rest)) (letters_in xs)) whole
        (takes_later taken))
    later e (was_paid same) = was_paid (rw e (ap (λ (xs : List Sent). first ∷ xs) same))

    by : (test : Bool) → is_sending number first ≡ test → Pays number rest → Pays number (first ∷ rest)
    by true e rest_pays =
        let whole : rest ≡ without_number number (first ∷ rest) = rw e refl in
        was_owed first (inl refl) (eqb-true first.number number e)
        (subst (λ (xs : List Sent). IsTaken first.letter (letters_in (first ∷ rest)) (letters_in xs)) whole takes_first)
    by false e rest_pays = later e rest_pays

-- the letters of what is owed that aren't of a sort
pub other-letters : (test : Letter → Bool) (owed : List Sent)
    → letters_in (filter (λ (one : Sent). not (test one.letter)) owed)
    ≡ filter (λ (letter : Letter). not (test letter)) (letters_in owed)
other-letters test [] = refl
other-letters test (first ∷ rest) = by (test first.letter) refl (other-letters test rest)
  where
    Same : List Sent → Type 0
    Same owed = letters_in (filter (λ (one : Sent). not (test one.letter)) owed)
        ≡ filter (λ (letter : Letter). not (test letter)) (letters_in owed)

    by : (is : Bool) → test first.letter ≡ is → Same rest → Same (first ∷ rest)
    by true e same = rw e same
    by false e same = rw e (ap (λ (xs : List Letter). first.letter ∷ xs) same)

-- Reloads

-- that a processor was loaded now changes what is noted of that one alone
set-before : (before : List ℕ) (processor count node : ℕ)
    → (count_before (slice_set before processor count) node ≡ count)
    ⊎ (count_before (slice_set before processor count) node ≡ count_before before node)
set-before [] processor count node = inr refl
set-before (x ∷ before) zero count zero = inl refl
set-before (x ∷ before) zero count (suc node) = inr refl
set-before (x ∷ before) (suc processor) count zero = inr refl
set-before (x ∷ before) (suc processor) count (suc node) = set-before before processor count node

set-here : (before : List ℕ) (processor count : ℕ) → processor < length before
    → count_before (slice_set before processor count) processor ≡ count
set-here [] processor count low = absurd (omega (arith, low))
set-here (x ∷ before) zero count low = refl
set-here (x ∷ before) (suc processor) count low = set-here before processor count (omega (arith, low))

pub reloaded-on : (processor : ℕ) (wires : Wires) (one : Sent) → IsOn one (wires_after_reload processor wires)
    → IsOn one wires
reloaded-on processor wires one (inl there) = inl there
reloaded-on processor wires one (inr owed) = inr (among-filter one _ wires.owed owed).0

module _ (processor : ℕ) (wires : Wires) (low : processor < length wires.before) where
  -- of which processor a letter is, by the tests of its two nodes
  neither : (one two : Bool) → (one ≡ true → ⊥) → (two ≡ true → ⊥) → not (one || two) ≡ true
  neither true two first second = absurd (first refl)
  neither false true first second = absurd (second refl)
  neither false false first second = refl

  -- a letter that isn't old after the processor was loaded is of other nodes
  of-others : (node number : ℕ) → number < wires.count
      → count_before (slice_set wires.before processor wires.count) node ≤ number
      → (node == processor) ≡ true → ⊥
  of-others node number given young here =
      let last = set-here wires.before processor wires.count low in
      let same = ap (count_before (slice_set wires.before processor wires.count)) (eqb-true node processor here) in
      omega (arith, given, young, last, same)

  pub reloaded-tidy : {sent : List Letter} → AreTidy wires sent
      → AreTidy (wires_after_reload processor wires) (without_those_of processor sent)
  reloaded-tidy {sent = sent} tidy = record {
    given = λ one on. tidy.given one (reloaded-on processor wires one on);
    alike = λ one other on there e.
        tidy.alike one other (reloaded-on processor wires one on) (reloaded-on processor wires other there) e;
    loaded = λ node.
        (let was = tidy.loaded node in
        elim (set-before wires.before processor wires.count node)
        [ inl now ↦ omega (arith, now) | inr before ↦ omega (arith, before, was) ]);
    known = λ one on present. known one (reloaded-on processor wires one on) present;
  }
    where
      rises : (node number : ℕ) → count_before (slice_set wires.before processor wires.count) node ≤ number
          → number < wires.count → nat_le (count_before wires.before node) number ≡ true
      rises node number young given = le-leb _ _
          (elim (set-before wires.before processor wires.count node)
          [ inl now ↦ absurd (omega (arith, now, young, given)) | inr before ↦ omega (arith, before, young) ])

      known : (one : Sent) → IsOn one wires → is_current (slice_set wires.before processor wires.count) one ≡ true
          → IsAmong one.letter (without_those_of processor sent)
      known one on present =
          let given = tidy.given one on in
          let both = both-true (nat_le (count_before (slice_set wires.before processor wires.count) one.letter.sender)
          one.number) _ present in
          let sends = leb-true _ _ both.0 in
          let receives = leb-true _ _ both.1 in
          filter-among one.letter (λ (letter : Letter). not (is_from_or_to processor letter)) sent
          (tidy.known one on (both_true (rises one.letter.sender one.number sends given)
          (rises one.letter.receiver one.number receives given)))
          (neither (one.letter.sender == processor) (one.letter.receiver == processor)
          (of-others one.letter.sender one.number given sends)
          (of-others one.letter.receiver one.number given receives))

-- Posting

-- a letter with the number of its sending
abbrev numbered : Letter → Wires → Sent
numbered letter wires = record { number = wires.count; letter = letter }

post-on : (letter : Letter) (wires : Wires) (one : Sent) → IsOn one (wires_after_post letter wires)
    → IsOn one wires ⊎ (one ≡ numbered letter wires)
post-on letter wires one (inl there) =
    elim (on-bus (numbered letter wires) one wires.bus there) [ inl before ↦ inl (inl before) | inr same ↦ inr same ]
post-on letter wires one (inr owed) = elim (among-either one wires.owed (numbered letter wires ∷ []) owed) [
  | inl before ↦ inl (inr before)
  | inr now ↦ elim now [ inl same ↦ inr same | inr none ↦ absurd none ]
]

pub posted-among : (letters : List Letter) (wires : Wires) (one : Sent) → IsOn one (wires_after_posts letters wires)
    → IsOn one wires ⊎ IsAmong one.letter letters
posted-among [] wires one on = inl on
posted-among (letter ∷ letters) wires one on = elim (posted-among letters (wires_after_post letter wires) one on) [
  | inl there ↦ elim (post-on letter wires one there)
      [ inl before ↦ inl before | inr same ↦ inr (inl (ap (λ (x : Sent). x.letter) same)) ]
  | inr among ↦ inr (inr among)
]

post-tidy : (letter : Letter) {wires : Wires} {sent : List Letter} → IsAmong letter sent → AreTidy wires sent
    → AreTidy (wires_after_post letter wires) sent
post-tidy letter {wires = wires} {sent = sent} among tidy = record {
  given = λ one on. elim (from one on) [
    | inl before ↦ (let below = tidy.given one before in omega (arith, below))
    | inr new ↦ (let same = ap (λ (x : Sent). x.number) new in omega (arith, same))
  ];
  alike = λ one other on there e. elim (from one on) [
    | inl before ↦ elim (from other there) [
      | inl earlier ↦ tidy.alike one other before earlier e
      | inr new ↦ (let below = tidy.given one before in let same = ap (λ (x : Sent). x.number) new in
          absurd (omega (arith, below, same, e)))
    ]
    | inr new ↦ elim (from other there) [
      | inl earlier ↦ (let below = tidy.given other earlier in let same = ap (λ (x : Sent). x.number) new in
          absurd (omega (arith, below, same, e)))
      | inr other_new ↦ ap (λ (x : Sent). x.letter) (new ∙ sym other_new)
    ]
  ];
  loaded = λ node. (let was = tidy.loaded node in omega (arith, was));
  known = λ one on present. elim (from one on) [
    | inl before ↦ tidy.known one before present
    | inr new ↦ subst (λ (x : Letter). IsAmong x sent) (sym (ap (λ (x : Sent). x.letter) new)) among
  ];
}
  where
    from : (one : Sent) → IsOn one (wires_after_post letter wires) → IsOn one wires ⊎ (one ≡ numbered letter wires)
    from = post-on letter wires

pub posted-tidy : (letters : List Letter) {wires : Wires} {sent : List Letter}
    → ((letter : Letter) → IsAmong letter letters → IsAmong letter sent) → AreTidy wires sent
    → AreTidy (wires_after_posts letters wires) sent
posted-tidy [] all tidy = tidy
posted-tidy (letter ∷ letters) all tidy =
    posted-tidy letters (λ other among. all other (inr among)) (post-tidy letter (all letter (inl refl)) tidy)

pub posted-owed : (letters : List Letter) (wires : Wires)
    → letters_in (wires_after_posts letters wires).owed ≡ letters_in wires.owed ++ letters
posted-owed [] wires = sym (append-nil _)
posted-owed (letter ∷ letters) wires =
    posted-owed letters (wires_after_post letter wires)
    ∙ ap (λ (xs : List Letter). xs ++ letters)
    (map-append (λ (one : Sent). one.letter) wires.owed (record { number = wires.count; letter = letter } ∷ []))
    ∙ append_assoc (letters_in wires.owed) (letter ∷ []) letters
