-- States to which acts lead: a slot of a file has something only while its process awaits the reply, and the slot of
-- the request in hand is taken.
use Rattle.std.proofs.Common.{◌≡◌, ◌⊎◌, ℕ, Bool, true, false, Option, Some, None, inl, inr, refl, ap, sym}
use Rattle.std.proofs.Common.{◌∙◌}
use Rattle.tal_tree.specs.declared.act.Act.{Act}
use Rattle.tal_tree.specs.declared.site.Site.{Site}
use Rattle.tal_tree.specs.declared.site.Who.{Who}
use Rattle.tal_tree.specs.declared.site.Who.TheVariants as who
use Rattle.plain_semantics.specs.process_semantics.specs.declared.point.Point.TheVariants as point
use Rattle.plain_semantics.specs.process_semantics.specs.Process as process
use Rattle.plain_semantics.specs.declared.slot.Opener.{Opener}
use Rattle.plain_semantics.specs.declared.slot.Slot.{Slot}
use Rattle.plain_semantics.specs.declared.slot.Slot.TheVariants.{Empty, Waiting, Taken, Answered}
use Rattle.plain_semantics.specs.Openers.{opener_of}
use Rattle.plain_semantics.specs.Machine.{Plain, answered_by, slot_of}
use Rattle.plain_histories.proofs.Openers.{opener-one}
use Rattle.order_laws.proofs.Asking.{NeverAsks}
use Rattle.order_laws.proofs.Deeds.{Actor, Core, Deed, OfProcess, OfTerminal, Process, actor_of}
use Rattle.order_laws.proofs.Deeds.{deed_in, own, touched_in}
use Rattle.order_laws.proofs.Views.{Answers, Asks, Gets, IsCall, IsEntry, IsInside, IsService, Takes, View, is_free}
use Rattle.order_laws.proofs.Views.{is_used, view}

-- a process awaits the reply of this file
pub record Waits (plain : Plain) (number file : ℕ) : Type 0 where
  pub core : Core
  pub has : own plain (OfProcess number) ≡ Process core
  pub stands : process.point core.state ≡ point.Await
  pub asked : process.asked_file core.state ≡ file

pub record IsOrderly (site : Site) (plain : Plain) : Type 0 where
  pub never : (number : ℕ) (core : Core) → own plain (OfProcess number) ≡ Process core → NeverAsks core.state
  pub waits : (number file : ℕ) (opener : Opener) → opener_of site (who.File number file) ≡ Some opener
      → is_used (slot_of plain (Some opener)) ≡ true → Waits plain number file
  pub holds : (number place : ℕ) (core : Core) → own plain (OfProcess number) ≡ Process core
      → core.hand ≡ Some place → slot_of plain (Some (record { server = number; place = place })) ≡ Some Taken

pub true-false : true ≡ false → ⊥
true-false e = cc

pub process-same : {a b : Core} → Process a ≡ Process b → a ≡ b
process-same e = cc

pub number-same : {a b : ℕ} → OfProcess a ≡ OfProcess b → a ≡ b
number-same e = cc

pub no-terminal : {a b : ℕ} → OfProcess a ≡ OfTerminal b → ⊥
no-terminal e = cc

pub some-same : {A : Type 0} {a b : A} → ◌≡◌ {A = Option A} (Some a) (Some b) → a ≡ b
some-same e = cc

pub none-some : {A : Type 0} {a : A} → ◌≡◌ {A = Option A} None (Some a) → ⊥
none-some e = cc

-- what isn't free is used
pub unfree-used : (slot : Option Slot) → is_free slot ≡ false → is_used slot ≡ true
unfree-used None e = absurd (cc)
unfree-used (Some Empty) e = absurd (cc)
unfree-used (Some (Waiting words)) e = refl
unfree-used (Some Taken) e = refl
unfree-used (Some (Answered words)) e = absurd (cc)

answered-place : (number : ℕ) (hand : Option ℕ) (opener : Opener) → answered_by number hand ≡ Some opener
    → (place : ℕ) × (hand ≡ Some place) × (record { server = number; place = place } ≡ opener)
answered-place number None opener e = absurd (cc)
answered-place number (Some place) opener e = (place, refl, some-same e)

-- Which slot an act touches

abbrev pub actor_who : Who → Actor
actor_who (who.File number file) = OfProcess number
actor_who (who.Terminal terminal) = OfTerminal terminal

-- its actor is the opener, and no request is there for the server
pub record IsClient (site : Site) (plain : Plain) (act : Act) (opener : Opener) : Type 0 where
  pub one : Who
  pub opens : opener_of site one ≡ Some opener
  pub actor : actor_who one ≡ actor_of act
  pub free : is_free (slot_of plain (Some opener)) ≡ true

-- its actor is the server, which has a request there
pub record IsServer (plain : Plain) (act : Act) (opener : Opener) : Type 0 where
  pub actor : OfProcess opener.server ≡ actor_of act
  pub unfree : is_free (slot_of plain (Some opener)) ≡ false

module _ (site : Site) (plain : Plain) (orderly : IsOrderly site plain) (act : Act) (one : Deed) (opener : Opener)
    (touches : touched_in site plain act ≡ Some opener) where
  at-slot : slot_of plain (touched_in site plain act) ≡ slot_of plain (Some opener)
  at-slot = ap (slot_of plain) touches

  inside-side : IsInside site plain act one → ⊥
  inside-side is = none-some (sym is.alone ∙ touches)

  asks-free : (is : IsCall site plain act one) → Asks is.by.core is.by.next
      → (free : Bool) → is_free (slot_of plain (Some opener)) ≡ free → free ≡ true
  asks-free is asks true there = refl
  asks-free is asks false there =
      let waits = orderly.waits is.by.number (process.asked_file is.by.core.state) opener (sym is.slot ∙ touches)
      (unfree-used (slot_of plain (Some opener)) there) in
      let same = process-same (sym is.by.has ∙ waits.has) in
      absurd (away (sym asks.stands ∙ ap (λ (core : Core). process.point core.state) same ∙ waits.stands))
    where
      away : point.Ask ≡ point.Await → ⊥
      away e = cc

  call-free : (is : IsCall site plain act one)
      → Asks is.by.core is.by.next ⊎ Gets plain (touched_in site plain act) is.by.core one
      → is_free (slot_of plain (Some opener)) ≡ true
  call-free is (inl asks) = asks-free is asks (is_free (slot_of plain (Some opener))) refl
  call-free is (inr gets) = ap is_free (sym at-slot) ∙ gets.free

  pub call-side : IsCall site plain act one → IsClient site plain act opener
  call-side is = record {
    one = who.File is.by.number (process.asked_file is.by.core.state);
    opens = sym is.slot ∙ touches;
    actor = sym is.by.actor;
    free = call-free is is.how;
  }

  pub serves : (is : IsService site plain act one)
      → Answers is.by.number is.by.core is.by.next (touched_in site plain act)
      ⊎ Takes is.by.number plain is.by.core is.by.next (touched_in site plain act) one
      → IsServer plain act opener
  serves is (inl answers) =
      let there = answered-place is.by.number is.by.core.hand opener (sym answers.slot ∙ touches) in
      record {
        actor = ap (λ (o : Opener). OfProcess o.server) (sym there.2) ∙ sym is.by.actor;
        unfree = ap (λ (o : Opener). is_free (slot_of plain (Some o))) (sym there.2)
            ∙ ap is_free (orderly.holds is.by.number there.0 is.by.core is.by.has there.1);
      }
  serves is (inr takes) = record {
    actor = ap (λ (o : Opener). OfProcess o.server) (some-same (sym touches ∙ takes.slot)) ∙ sym is.by.actor;
    unfree = ap is_free (sym at-slot ∙ takes.waits);
  }

  entry-side : IsEntry site plain act → IsClient site plain act opener
  entry-side is = record {
    one = who.Terminal is.terminal;
    opens = sym is.slot ∙ touches;
    actor = sym is.actor;
    free = ap is_free (sym at-slot) ∙ is.free;
  }

  pub side : View site plain act one → IsClient site plain act opener ⊎ IsServer plain act opener
  side (inl (inl inside)) = absurd (inside-side inside)
  side (inl (inr call)) = inl (call-side call)
  side (inr (inl service)) = inr (serves service service.how)
  side (inr (inr entry)) = inl (entry-side entry)

-- two acts of different actors never touch one slot
pub apart-slots : (site : Site) (plain : Plain) → IsOrderly site plain → (act other : Act) (one two : Deed)
    → deed_in site plain act ≡ Some one → deed_in site plain other ≡ Some two
    → (actor_of act ≡ actor_of other → ⊥) → (opener : Opener) → touched_in site plain act ≡ Some opener
    → touched_in site plain other ≡ Some opener → ⊥
apart-slots site plain orderly act other one two first second apart opener touches meets =
    by (side site plain orderly act one opener touches (view site plain one act first))
    (side site plain orderly other two opener meets (view site plain two other second))
  where
    by : IsClient site plain act opener ⊎ IsServer plain act opener
        → IsClient site plain other opener ⊎ IsServer plain other opener → ⊥
    by (inl a) (inl b) =
        apart (sym a.actor ∙ ap actor_who (opener-one site a.one b.one opener a.opens b.opens) ∙ b.actor)
    by (inl a) (inr b) = true-false (sym a.free ∙ b.unfree)
    by (inr a) (inl b) = true-false (sym b.free ∙ a.unfree)
    by (inr a) (inr b) = apart (sym a.actor ∙ b.actor)
