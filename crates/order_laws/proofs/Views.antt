-- What an act is that is possible: inside a process, a call of a file, an act of a server on a slot, or of a terminal.
use Rattle.std.proofs.Common.{◌≡◌, ◌⊎◌, ℕ, ℤ, List, Bool, true, false, Option, Some, None, inl, inr, refl, ap, sym, ◌∙◌}
use Rattle.tal_tree.specs.declared.act.Act.{Act}
use Rattle.tal_tree.specs.declared.act.Act.TheVariants.{Step, Take, Enter, Print}
use Rattle.tal_tree.specs.declared.site.Site.{Site}
use Rattle.tal_tree.specs.declared.site.Who.TheVariants as who
use Rattle.plain_semantics.specs.process_semantics.specs.declared.point.Point.{Point}
use Rattle.plain_semantics.specs.process_semantics.specs.declared.point.Point.TheVariants as point
use Rattle.plain_semantics.specs.process_semantics.specs.Process as process
use Rattle.plain_semantics.specs.declared.slot.Opener.{Opener}
use Rattle.plain_semantics.specs.declared.slot.Slot.{Slot}
use Rattle.plain_semantics.specs.declared.slot.Slot.TheVariants.{Empty, Waiting, Taken, Answered}
use Rattle.plain_semantics.specs.Openers.{opener_of}
use Rattle.plain_semantics.specs.Machine.{Plain, answered_by, entered_at, found_by, slot_of}
use Rattle.order_laws.proofs.Asking.{NeverAsks, answered-never, asked-awaits, asked-never, asked-same, checkpoint-never}
use Rattle.order_laws.proofs.Asking.{device-never, got-never, inner-never, took-never}
use Rattle.order_laws.proofs.Deeds.{Core, Deed, Entered, Nothing, OfProcess, OfTerminal, Own, Process, actor_of, deed}
use Rattle.order_laws.proofs.Deeds.{deed_in, enter_deed, got_deed, own, print_deed, step_deed, take_deed}
use Rattle.order_laws.proofs.Deeds.{took_deed, touched, touched_at, touched_in}

-- a slot has no request for its server, nor one that the server took
abbrev pub is_free : Option Slot → Bool
is_free None = true
is_free (Some Empty) = true
is_free (Some (Waiting words)) = false
is_free (Some Taken) = false
is_free (Some (Answered words)) = true

-- a slot has something
abbrev pub is_used : Option Slot → Bool
is_used None = false
is_used (Some Empty) = false
is_used (Some (Waiting words)) = true
is_used (Some Taken) = true
is_used (Some (Answered words)) = true

-- of a process, before and after
pub record IsOf (site : Site) (plain : Plain) (act : Act) (one : Deed) : Type 0 where
  pub number : ℕ
  pub core : Core
  pub next : Core
  pub actor : actor_of act ≡ OfProcess number
  pub has : own plain (OfProcess number) ≡ Process core
  pub after : one.after ≡ Process next
  pub never : NeverAsks core.state → NeverAsks next.state

pub record IsInside (site : Site) (plain : Plain) (act : Act) (one : Deed) : Type 0 where
  pub by : IsOf site plain act one
  pub alone : touched_in site plain act ≡ None
  pub stands : process.point by.core.state ≡ point.Await → ⊥
  pub hand : by.next.hand ≡ by.core.hand

-- it asks, and awaits the reply then
pub record Asks (core next : Core) : Type 0 where
  pub stands : process.point core.state ≡ point.Ask
  pub awaits : NeverAsks core.state → process.point next.state ≡ point.Await
  pub same : process.asked_file next.state ≡ process.asked_file core.state

-- it gets the reply
pub record Gets (plain : Plain) (opener : Option Opener) (core : Core) (one : Deed) : Type 0 where
  pub stands : process.point core.state ≡ point.Await
  pub free : is_free (slot_of plain opener) ≡ true
  pub leaves : one.slot ≡ Empty

pub record IsCall (site : Site) (plain : Plain) (act : Act) (one : Deed) : Type 0 where
  pub by : IsOf site plain act one
  pub slot : touched_in site plain act ≡ opener_of site (who.File by.number (process.asked_file by.core.state))
  pub hand : by.next.hand ≡ by.core.hand
  pub how : Asks by.core by.next ⊎ Gets plain (touched_in site plain act) by.core one

-- it answers the request in hand
pub record Answers (number : ℕ) (core next : Core) (opener : Option Opener) : Type 0 where
  pub stands : process.point core.state ≡ point.Answer
  pub slot : opener ≡ answered_by number core.hand
  pub hand : next.hand ≡ None

-- it takes a request
pub record Takes (number : ℕ) (plain : Plain) (core next : Core) (opener : Option Opener) (one : Deed) : Type 0 where
  pub stands : process.point core.state ≡ point.Take
  pub place : ℕ
  pub words : List ℤ
  pub slot : opener ≡ Some (record { server = number; place = place })
  pub waits : slot_of plain opener ≡ Some (Waiting words)
  pub hand : next.hand ≡ Some place
  pub leaves : one.slot ≡ Taken

pub record IsService (site : Site) (plain : Plain) (act : Act) (one : Deed) : Type 0 where
  pub by : IsOf site plain act one
  pub how : Answers by.number by.core by.next (touched_in site plain act)
      ⊎ Takes by.number plain by.core by.next (touched_in site plain act) one

pub record IsEntry (site : Site) (plain : Plain) (act : Act) : Type 0 where
  pub terminal : ℕ
  pub actor : actor_of act ≡ OfTerminal terminal
  pub slot : touched_in site plain act ≡ opener_of site (who.Terminal terminal)
  pub free : is_free (slot_of plain (touched_in site plain act)) ≡ true

abbrev pub View : Site → Plain → Act → Deed → Type 0
View site plain act one =
    (IsInside site plain act one ⊎ IsCall site plain act one) ⊎ (IsService site plain act one ⊎ IsEntry site plain act)

some-is : {x y : Deed} → ◌≡◌ {A = Option Deed} (Some x) (Some y) → x ≡ y
some-is e = cc

module _ (site : Site) (plain : Plain) (one : Deed) (number : ℕ) (core : Core)
    (has : own plain (OfProcess number) ≡ Process core) where
  abbrev of_step : (next : Core) → one.after ≡ Process next → (NeverAsks core.state → NeverAsks next.state)
      → IsOf site plain (Step number) one
  of_step next after never = record {
    number = number;
    core = core;
    next = next;
    actor = refl;
    has = has;
    after = after;
    never = never;
  }

  touch : (stands : Point) → process.point core.state ≡ stands
      → touched_in site plain (Step number) ≡ touched_at site number core stands
  touch stands at =
      ap (λ (own : Own). touched site own (Step number)) has ∙ ap (touched_at site number core) at

  got-view : process.point core.state ≡ point.Await → (slot : Option Slot)
      → slot_of plain (touched_in site plain (Step number)) ≡ slot → got_deed core slot ≡ Some one
      → View site plain (Step number) one
  got-view at None there came = absurd (cc)
  got-view at (Some Empty) there came = absurd (cc)
  got-view at (Some (Waiting words)) there came = absurd (cc)
  got-view at (Some Taken) there came = absurd (cc)
  got-view at (Some (Answered words)) there came = inl (inr (record {
    by = of_step (record core { state = process.after_got core.state words })
        (ap (λ (d : Deed). d.after) (sym (some-is came))) (got-never core.state words);
    slot = touch point.Await at;
    hand = refl;
    how = inr (record {
      stands = at;
      free = ap is_free there;
      leaves = ap (λ (d : Deed). d.slot) (sym (some-is came));
    });
  }))

  step-view : (stands : Point) → process.point core.state ≡ stands
      → step_deed number core (slot_of plain (touched_in site plain (Step number))) stands ≡ Some one
      → View site plain (Step number) one
  step-view point.Inner at came = inl (inl (record {
    by = of_step (record core { state = process.after_inner core.state })
        (ap (λ (d : Deed). d.after) (sym (some-is came))) (inner-never core.state);
    alone = touch point.Inner at;
    stands = λ other. away (sym at ∙ other);
    hand = refl;
  }))
    where
      away : point.Inner ≡ point.Await → ⊥
      away e = cc
  step-view point.Ask at came = inl (inr (record {
    by = of_step (record core { state = process.after_asked core.state })
        (ap (λ (d : Deed). d.after) (sym (some-is came))) (asked-never core.state);
    slot = touch point.Ask at;
    hand = refl;
    how = inl (record {
      stands = at;
      awaits = λ never. asked-awaits core.state never at;
      same = asked-same core.state;
    });
  }))
  step-view point.Await at came =
      got-view at (slot_of plain (touched_in site plain (Step number))) refl came
  step-view point.Answer at came = inr (inl (record {
    by = of_step (record core { state = process.after_answered core.state; hand = None })
        (ap (λ (d : Deed). d.after) (sym (some-is came))) (answered-never core.state);
    how = inl (record { stands = at; slot = touch point.Answer at; hand = refl });
  }))
  step-view point.AtCheckpoint at came = inl (inl (record {
    by = of_step (record core { state = process.after_checkpoint core.state })
        (ap (λ (d : Deed). d.after) (sym (some-is came))) (checkpoint-never core.state);
    alone = touch point.AtCheckpoint at;
    stands = λ other. away (sym at ∙ other);
    hand = refl;
  }))
    where
      away : point.AtCheckpoint ≡ point.Await → ⊥
      away e = cc
  step-view point.Device at came = inl (inl (record {
    by = of_step _ (ap (λ (d : Deed). d.after) (sym (some-is came)))
        (device-never core.state (found_by core.sectors (process.call_of core.state)));
    alone = touch point.Device at;
    stands = λ other. away (sym at ∙ other);
    hand = refl;
  }))
    where
      away : point.Device ≡ point.Await → ⊥
      away e = cc
  step-view point.Take at came = absurd (cc)
  step-view point.Ended at came = absurd (cc)

  module _ (place : ℕ) where
    took-view : process.point core.state ≡ point.Take → (slot : Option Slot)
        → slot_of plain (touched_in site plain (Take number place)) ≡ slot → took_deed place core slot ≡ Some one
        → View site plain (Take number place) one
    took-view at None there came = absurd (cc)
    took-view at (Some Empty) there came = absurd (cc)
    took-view at (Some Taken) there came = absurd (cc)
    took-view at (Some (Answered words)) there came = absurd (cc)
    took-view at (Some (Waiting words)) there came = inr (inl (record {
      by = record {
        number = number;
        core = core;
        next = record core { state = process.after_took core.state words; hand = Some place };
        actor = refl;
        has = has;
        after = ap (λ (d : Deed). d.after) (sym (some-is came));
        never = took-never core.state words;
      };
      how = inr (record {
        stands = at;
        place = place;
        words = words;
        slot = refl;
        waits = there;
        hand = refl;
        leaves = ap (λ (d : Deed). d.slot) (sym (some-is came));
      });
    }))

    take-view : (stands : Point) → process.point core.state ≡ stands
        → take_deed place core (slot_of plain (touched_in site plain (Take number place))) stands ≡ Some one
        → View site plain (Take number place) one
    take-view point.Take at came =
        took-view at (slot_of plain (touched_in site plain (Take number place))) refl came
    take-view point.Inner at came = absurd (cc)
    take-view point.Ask at came = absurd (cc)
    take-view point.Await at came = absurd (cc)
    take-view point.Answer at came = absurd (cc)
    take-view point.AtCheckpoint at came = absurd (cc)
    take-view point.Device at came = absurd (cc)
    take-view point.Ended at came = absurd (cc)

module _ (site : Site) (plain : Plain) (one : Deed) where
  entry-view : (act : Act) (terminal : ℕ) → actor_of act ≡ OfTerminal terminal
      → touched_in site plain act ≡ opener_of site (who.Terminal terminal)
      → is_free (slot_of plain (touched_in site plain act)) ≡ true → View site plain act one
  entry-view act terminal actor slot free =
      inr (inr (record { terminal = terminal; actor = actor; slot = slot; free = free }))

  enter-free : (terminal count : ℕ) (slot : Option Slot) → enter_deed site terminal count slot ≡ Some one
      → is_free slot ≡ true
  enter-free terminal count None came = refl
  enter-free terminal count (Some Empty) came = refl
  enter-free terminal count (Some (Waiting words)) came = absurd (cc)
  enter-free terminal count (Some Taken) came = absurd (cc)
  enter-free terminal count (Some (Answered words)) came = refl

  print-free : (terminal count : ℕ) (slot : Option Slot) → print_deed terminal count slot ≡ Some one
      → is_free slot ≡ true
  print-free terminal count None came = refl
  print-free terminal count (Some Empty) came = refl
  print-free terminal count (Some (Waiting words)) came = absurd (cc)
  print-free terminal count (Some Taken) came = absurd (cc)
  print-free terminal count (Some (Answered words)) came = refl

  step-own : (number : ℕ) (has : Own) → own plain (OfProcess number) ≡ has
      → deed site has (slot_of plain (touched_in site plain (Step number))) (Step number) ≡ Some one
      → View site plain (Step number) one
  step-own number Nothing there came = absurd (cc)
  step-own number (Entered count) there came = absurd (cc)
  step-own number (Process core) there came =
      step-view site plain one number core there (process.point core.state) refl came

  take-own : (number place : ℕ) (has : Own) → own plain (OfProcess number) ≡ has
      → deed site has (slot_of plain (touched_in site plain (Take number place))) (Take number place) ≡ Some one
      → View site plain (Take number place) one
  take-own number place Nothing there came = absurd (cc)
  take-own number place (Entered count) there came = absurd (cc)
  take-own number place (Process core) there came =
      take-view site plain one number core there place (process.point core.state) refl came

  pub view : (act : Act) → deed_in site plain act ≡ Some one → View site plain act one
  view (Step number) came = step-own number (own plain (OfProcess number)) refl came
  view (Take number place) came = take-own number place (own plain (OfProcess number)) refl came
  view (Enter terminal) came =
      entry-view (Enter terminal) terminal refl refl
      (enter-free terminal (entered_at plain terminal) (slot_of plain (opener_of site (who.Terminal terminal))) came)
  view (Print terminal) came =
      entry-view (Print terminal) terminal refl refl
      (print-free terminal (entered_at plain terminal) (slot_of plain (opener_of site (who.Terminal terminal))) came)
