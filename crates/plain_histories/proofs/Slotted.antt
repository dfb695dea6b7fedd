-- What a change of one process or one slot of the plain machine leaves.
use Rattle.std.proofs.Common.{◌≡◌, ◌≢◌, inl, inr, ℕ, Option, Some, None, option_and_then, slice_get, slice_set, List}
use Rattle.std.proofs.Common.{refl, sym, ap, subst, ◌∙◌}
use Rattle.std.proofs.lemmas.Bool.Decides.{eqb_tells}
use Rattle.plain_semantics.specs.declared.slot.Opener.{Opener}
use Rattle.plain_semantics.specs.declared.slot.Slot.{Slot}
use Rattle.plain_semantics.specs.Machine.{Plain, PlainProcess, slot_at, with_process, with_slot, slot_put}
use Rattle.process_histories.specs.world_semantics.proofs.Lists.{some-same, set-there, set-other}

-- two processes are the same but for their slots
pub record AreAlike (one other : PlainProcess) : Type 0 where
  pub state : other.state ≡ one.state
  pub hand : other.hand ≡ one.hand
  pub sectors : other.sectors ≡ one.sectors

-- the process of a slot that is there
pub record HasSlot (plain : Plain) (opener : Opener) (slot : Slot) : Type 0 where
  pub server : PlainProcess
  pub there : slice_get plain.processes opener.server ≡ Some server
  pub slot_there : slice_get server.slots opener.place ≡ Some slot

pub slot-has : (plain : Plain) (opener : Opener) (slot : Slot) → slot_at plain opener ≡ Some slot
    → HasSlot plain opener slot
slot-has plain opener slot e = by (slice_get plain.processes opener.server) refl e
  where
    by : (o : Option PlainProcess) → slice_get plain.processes opener.server ≡ o
        → option_and_then (λ (server : PlainProcess). slice_get server.slots opener.place) o ≡ Some slot
        → HasSlot plain opener slot
    by None is e = absurd (cc)
    by (Some server) is e = record { server = server; there = is; slot_there = e }

pub slot-same : (plain : Plain) (opener : Opener) (old slot : Slot) → slot_at plain opener ≡ Some old
    → slot_at (with_slot (Some opener) slot plain) opener ≡ Some slot
slot-same plain opener old slot e =
    let h = slot-has plain opener old e in
    let with_deed : slice_get (slice_set plain.processes opener.server
    (record h.server { slots = slice_set h.server.slots opener.place slot })) opener.server
    ≡ Some (record h.server { slots = slice_set h.server.slots opener.place slot }) =
    set-there plain.processes opener.server h.server _ h.there in
    rw h.there (rw with_deed (set-there h.server.slots opener.place old slot h.slot_there))

-- a process at a place, after one was changed
pub process-there : (plain : Plain) (number : ℕ) (one changed : PlainProcess)
    → slice_get plain.processes number ≡ Some one
    → slice_get (with_process number changed plain).processes number ≡ Some changed
process-there plain number one changed there = set-there plain.processes number one changed there

pub process-other : (plain : Plain) (number other : ℕ) (changed : PlainProcess) → number ≢ other
    → slice_get (with_process number changed plain).processes other ≡ slice_get plain.processes other
process-other plain number other changed n = set-other plain.processes number other changed n

-- a process changed but for its slots
pub process-slots : (plain : Plain) (number : ℕ) (one changed : PlainProcess) (opener : Opener)
    → slice_get plain.processes number ≡ Some one → changed.slots ≡ one.slots
    → slot_at (with_process number changed plain) opener ≡ slot_at plain opener
process-slots plain number one changed opener there same = elim (eqb_tells number opener.server) [
  | inl t ↦
      (let at : slice_get plain.processes opener.server
      ≡ Some one = subst (λ k. slice_get plain.processes k ≡ Some one) t.1 there in
      let now : slice_get (slice_set plain.processes number changed) opener.server ≡ Some changed =
      subst (λ k. slice_get (slice_set plain.processes number changed) k ≡ Some changed) t.1
      (process-there plain number one changed there) in
      rw (now, at) (ap (λ (xs : List Slot). slice_get xs opener.place) same))
  | inr t ↦ ap (option_and_then (λ (server : PlainProcess). slice_get server.slots opener.place))
      (process-other plain number opener.server changed t.1)
]

different : (one other : Opener) → one ≢ other → one.server ≡ other.server → one.place ≢ other.place
different one other n e f = n (rw (e, f) refl)

pub slot-other : (plain : Plain) (opener other : Opener) (slot : Slot) → opener ≢ other
    → slot_at (with_slot (Some opener) slot plain) other ≡ slot_at plain other
slot-other plain opener other slot n = by (slice_get plain.processes opener.server) refl
  where
    by : (o : Option PlainProcess) → slice_get plain.processes opener.server ≡ o
        → slot_at (slot_put opener slot plain o) other ≡ slot_at plain other
    by None is = refl
    by (Some server) is = elim (eqb_tells opener.server other.server) [
      | inl t ↦
          (let now : slice_get (slice_set plain.processes opener.server
          (record server { slots = slice_set server.slots opener.place slot })) other.server
          ≡ Some (record server { slots = slice_set server.slots opener.place slot }) =
          subst (λ k. slice_get (slice_set plain.processes opener.server
          (record server { slots = slice_set server.slots opener.place slot })) k
          ≡ Some (record server { slots = slice_set server.slots opener.place slot })) t.1
          (set-there plain.processes opener.server server _ is) in
          let old : slice_get plain.processes other.server ≡ Some server =
          subst (λ k. slice_get plain.processes k ≡ Some server) t.1 is in
          rw (now, old) (set-other server.slots opener.place other.place slot (different opener other n t.1)))
      | inr t ↦ ap (option_and_then (λ (s : PlainProcess). slice_get s.slots other.place))
          (process-other plain opener.server other.server
          (record server { slots = slice_set server.slots opener.place slot }) t.1)
    ]

pub slot-alike : (plain : Plain) (opener : Option Opener) (slot : Slot) (number : ℕ) (one : PlainProcess)
    → slice_get plain.processes number ≡ Some one
    → (other : PlainProcess) × (slice_get (with_slot opener slot plain).processes number ≡ Some other)
    × AreAlike one other
slot-alike plain None slot number one there = (one, there, record { state = refl; hand = refl; sectors = refl })
slot-alike plain (Some opener) slot number one there = by (slice_get plain.processes opener.server) refl
  where
    by : (o : Option PlainProcess) → slice_get plain.processes opener.server ≡ o
        → (other : PlainProcess) × (slice_get (slot_put opener slot plain o).processes number ≡ Some other)
        × AreAlike one other
    by None is = (one, there, record { state = refl; hand = refl; sectors = refl })
    by (Some server) is = elim (eqb_tells opener.server number) [
      | inl t ↦
          (let same : server ≡ one = some-same (sym is ∙ ap (slice_get plain.processes) t.1 ∙ there) in (
            record server { slots = slice_set server.slots opener.place slot },
            subst (λ k. slice_get (slice_set plain.processes opener.server
                (record server { slots = slice_set server.slots opener.place slot })) k
                ≡ Some (record server { slots = slice_set server.slots opener.place slot })) t.1
                (set-there plain.processes opener.server server _ is),
            record {
              state = ap (λ (p : PlainProcess). p.state) same;
              hand = ap (λ (p : PlainProcess). p.hand) same;
              sectors = ap (λ (p : PlainProcess). p.sectors) same;
            },
          ))
      | inr t ↦ (
        one,
        process-other plain opener.server number
            (record server { slots = slice_set server.slots opener.place slot }) t.1
            ∙ there,
        record { state = refl; hand = refl; sectors = refl },
      )
    ]
