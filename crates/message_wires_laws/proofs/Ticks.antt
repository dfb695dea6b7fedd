-- After the tick of a node what it sent, and is owed to a node that runs, is on the bus, unless that is full.
use Rattle.std.proofs.Common.{◌≡◌, ◌⊎◌, inl, inr, ℕ, ◌==◌, ◌||◌, Bool, true, false, not, if◌then◌else◌, List, [], ◌∷◌}
use Rattle.std.proofs.Common.{◌++◌, length, refl, sym, ap, subst, ◌∙◌, eq-eqb}
use Rattle.std.specs.List.{list_any}
use Rattle.std.proofs.lemmas.List.Folds.{list_any-append}
use Rattle.gd_words.specs.Members.{IsAmong}
use Rattle.schedule.specs.declared.event.Event.TheVariants.{Tick}
use Rattle.world_semantics.specs.World.{is_running}
use Rattle.message_wires.specs.machine_states.specs.States.{Played, Makes, Skips, Would}
use Rattle.message_wires.specs.Wires.{Sent, Wires, has_room, put_on, is_sending, is_on, is_due, put_again}
use Rattle.message_wires.specs.Play.{MachineState, marks_from, state_after_tick, play}

-- a packet of a sending is on a bus, or that is full
abbrev pub IsOnUnlessFull : List Sent → ℕ → Type 0
IsOnUnlessFull bus number = (is_on bus number ≡ true) ⊎ (has_room bus ≡ false)

put-stays : (packet : Sent) (bus : List Sent) (number : ℕ) → IsOnUnlessFull bus number
    → IsOnUnlessFull (put_on packet bus) number
put-stays packet bus number on = by (has_room bus) refl on
  where
    by : (room : Bool) → has_room bus ≡ room → IsOnUnlessFull bus number
        → IsOnUnlessFull (if room then bus ++ packet ∷ [] else bus) number
    by true e (inl is) =
        inl (list_any-append (is_sending number) bus (packet ∷ [])
        ∙ ap (λ b. b || list_any (is_sending number) (packet ∷ [])) is)
    by true e (inr full) = absurd (cc)
    by false e on = on

put-there : (packet : Sent) (bus : List Sent) → IsOnUnlessFull (put_on packet bus) packet.number
put-there packet bus = by (has_room bus) refl
  where
    last : (b : Bool) → (b || ((packet.number == packet.number) || false)) ≡ true
    last true = refl
    last false = ap (λ b. b || false) (eq-eqb packet.number packet.number refl)

    by : (room : Bool) → has_room bus ≡ room → IsOnUnlessFull (if room then bus ++ packet ∷ [] else bus) packet.number
    by true e = inl (list_any-append (is_sending packet.number) bus (packet ∷ [])
        ∙ last (list_any (is_sending packet.number) bus))
    by false e = inr e

again-stays : (stopped : List Bool) (node : ℕ) (owed bus : List Sent) (number : ℕ) → IsOnUnlessFull bus number
    → IsOnUnlessFull (put_again stopped node owed bus) number
again-stays stopped node [] bus number on = on
again-stays stopped node (one ∷ rest) bus number on = by (is_due stopped node bus one) (again-stays stopped node rest)
  where
    by : (due : Bool) → ((bus : List Sent) (number : ℕ) → IsOnUnlessFull bus number
        → IsOnUnlessFull (put_again stopped node rest bus) number)
        → IsOnUnlessFull (put_again stopped node rest (if due then put_on one bus else bus)) number
    by true up = up (put_on one bus) number (put-stays one bus number on)
    by false up = up bus number on

again-on : (stopped : List Bool) (node : ℕ) (owed bus : List Sent) (one : Sent) → IsAmong one owed
    → one.letter.sender ≡ node
    → is_running stopped one.letter.receiver ≡ true → IsOnUnlessFull (put_again stopped node owed bus) one.number
again-on stopped node [] bus one among sends runs = absurd among
again-on stopped node (first ∷ rest) bus one (inr among) sends runs =
    again-on stopped node rest (if is_due stopped node bus first then put_on first bus else bus) one among sends runs
again-on stopped node (first ∷ rest) bus one (inl same) sends runs =
    subst OnAgain (sym same) (by (is_on bus first.number) refl)
  where
    OnAgain : Sent → Type 0
    OnAgain packet = IsOnUnlessFull (put_again stopped node (first ∷ rest) bus) packet.number

    due : (b : Bool) → is_on bus first.number ≡ b → is_due stopped node bus first ≡ not b
    due b e =
        let sender : (first.letter.sender == node) ≡ true =
        eq-eqb first.letter.sender node (ap (λ (packet : Sent). packet.letter.sender) (sym same) ∙ sends) in
        let receiver : is_running stopped first.letter.receiver ≡ true =
        ap (λ (packet : Sent). is_running stopped packet.letter.receiver) (sym same) ∙ runs in
        rw (sender, receiver, e) refl

    by : (b : Bool) → is_on bus first.number ≡ b → OnAgain first
    by true e = rw (due true e) (again-stays stopped node rest bus first.number (inl e))
    by false e = rw (due false e) (again-stays stopped node rest (put_on first bus) first.number (put-there first bus))

pub tick-again : (s next : MachineState) (node : ℕ) (one : Sent) → play s (Tick node) ≡ Makes next
    → IsAmong one next.wires.owed → one.letter.sender ≡ node
    → is_running next.world.stopped one.letter.receiver ≡ true → IsOnUnlessFull next.wires.bus one.number
tick-again s next node one e = subst Again e (by (is_running s.world.stopped node))
  where
    Again : Played Wires → Type 0
    Again (Makes next) =
        IsAmong one next.wires.owed → one.letter.sender ≡ node
        → is_running next.world.stopped one.letter.receiver ≡ true → IsOnUnlessFull next.wires.bus one.number
    Again Skips = Unit {0}
    Again (Would harm) = Unit {0}

    by : (test : Bool) → Again (if test then Makes
        (state_after_tick node (marks_from node 0 (length s.world.stopped) s)) else Skips)
    by true =
        let marked = marks_from node 0 (length s.world.stopped) s in
        λ among sends runs. again-on marked.world.stopped node marked.wires.owed marked.wires.bus one among sends runs
    by false = tt
