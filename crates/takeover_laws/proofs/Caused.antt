-- What lets a copy do a deed keeps to the ledger.
use Rattle.std.proofs.Common.{◌≡◌, ◌≢◌, inl, inr, ℕ, ℤ, false, List, ◌∷◌, ◌++◌, Option, Some, None, refl, ap, subst}
use Rattle.gd_words.specs.Members.{IsAmong}
use Rattle.gd_words.specs.declared.device.DeviceCall.{DeviceCall}
use Rattle.gd_words.specs.declared.device.DeviceCall.TheVariants as call
use Rattle.gd_words.specs.declared.message.Request.{Request}
use Rattle.gd_words.specs.declared.message.Reply.{Reply}
use Rattle.tal_tree.specs.declared.act.Act.{Act}
use Rattle.tal_tree.specs.declared.site.Site.{Site}
use Rattle.tal_tree.specs.declared.site.ProcessSpec.{ProcessSpec}
use Rattle.tal_tree.specs.declared.site.Who.TheVariants as who
use Rattle.world_semantics.specs.plain_semantics.specs.Openers.{opener_of}
use Rattle.world_semantics.specs.plain_semantics.specs.declared.slot.Opener.{Opener}
use Rattle.world_semantics.specs.disc_device.specs.Sectors.{stored_after}
use Rattle.world_semantics.specs.Core.{Core, Deed, Checkpointed, Asked, Acted, next_on}
use Rattle.world_semantics.specs.Messages.{Message, Cause}
use Rattle.world_semantics.specs.Own.{Around, request_to, found_on, is_new_write, Causes, by_inner, by_take, by_ask}
use Rattle.world_semantics.specs.Own.{by_answer, by_device, by_write, by_reply}
use Rattle.world_semantics.proofs.Waiting.{chosen-rest}
use Rattle.plain_histories.specs.process_histories.specs.Devices.{sectors_after}
use Rattle.plain_histories.specs.Booking.{act_of, shown_of}
use Rattle.plain_histories.specs.Ledgers.{Ledger}
use Rattle.takeover_laws.specs.Invariant.{IsAsked, IsAnswered}
use Rattle.takeover_laws.proofs.Backed.{IsBacked, IsSentBy, IsOld, IsNew}
use Rattle.takeover_laws.proofs.Frame.{asked-more, answered-more}
use Rattle.takeover_laws.proofs.Settled.{Keeps}
use Rattle.takeover_laws.proofs.Waiting.{chosen-is}

abbrev pub AllAsked : Site → Ledger → List Request → Type 0
AllAsked site ledger requests = (request : Request) → IsAmong request requests → IsAsked site ledger request

abbrev pub AllAnswered : Ledger → List Reply → Type 0
AllAnswered ledger replies = (reply : Reply) → IsAmong reply replies → IsAnswered ledger reply

-- a deed with its act and what it leaves around a copy, told by a ledger, and by a later one that has what it sent
pub record IsCaused (site : Site) (ledger : Ledger) (number : ℕ) (spec : ProcessSpec) (core : Core)
    (before after : Around) (deed : Deed) (act : Act) : Type 0 where
  pub act_is : act ≡ act_of number deed
  pub no_checkpoint : deed ≢ Checkpointed
  pub backed : IsBacked site ledger number spec core deed
  pub waiting : (request : Request) → IsAmong request after.waiting → IsAmong request before.waiting
  pub requests : (more : Ledger) → Keeps ledger more → IsSentBy site more number core deed
      → AllAsked site more after.requests
  pub replies : (more : Ledger) → Keeps ledger more → IsSentBy site more number core deed
      → AllAnswered more after.replies
  pub old : IsOld ledger number spec deed → (after.sectors ≡ before.sectors) × (after.shown ≡ before.shown)
  pub new : IsNew ledger number spec deed
      → (after.sectors ≡ sectors_after spec.what (deed ∷ ledger.deeds number))
      × (after.shown ≡ shown_of number deed ++ before.shown)

module _ (site : Site) (ledger : Ledger) (number node : ℕ) (spec : ProcessSpec) (core : Core) (before : Around)
    (asked : AllAsked site ledger before.requests) (answered : AllAnswered ledger before.replies)
    (waits : (request : Request) → IsAmong request before.waiting
    → (request.process ≡ number) × IsAsked site ledger request)
    (sectors : before.sectors ≡ sectors_after spec.what (ledger.deeds number)) where
  old-requests : (more : Ledger) → Keeps ledger more → AllAsked site more before.requests
  old-requests more stay request among = asked-more site stay request (asked request among)

  old-replies : (more : Ledger) → Keeps ledger more → AllAnswered more before.replies
  old-replies more stay reply among = answered-more stay reply (answered reply among)

  new-requests : (more : Ledger) (file : ℕ) (words : List ℤ) (opener : Option Opener)
      → opener_of site (who.File number file) ≡ opener → Keeps ledger more
      → IsSentBy site more number core (Asked file words)
      → AllAsked site more (request_to (next_on core file) words opener ++ before.requests)
  new-requests more file words None is stay sent request among = old-requests more stay request among
  new-requests more file words (Some opener) is stay sent request (inl same) =
      rw same (who.File number file, is, sent opener is)
  new-requests more file words (Some opener) is stay sent request (inr among) = old-requests more stay request among

  new-replies : (more : Ledger) (new : Reply) → Keeps ledger more → IsAnswered more new
      → AllAnswered more (new ∷ before.replies)
  new-replies more new stay entry reply (inl same) = rw same entry
  new-replies more new stay entry reply (inr among) = old-replies more stay reply among

  device-new : (c : DeviceCall) → is_new_write before.sectors c ≡ false
      → IsNew ledger number spec (Acted c (found_on before.sectors c))
      → (before.sectors ≡ sectors_after spec.what (Acted c (found_on before.sectors c) ∷ ledger.deeds number))
      × (before.shown ≡ shown_of number (Acted c (found_on before.sectors c)) ++ before.shown)
  device-new call.Nothing stood new = (sectors, refl)
  device-new (call.Read sector) stood new = (sectors, refl)
  device-new (call.Write sector words write) stood new =
      absurd (let same = ap (λ s. is_new_write s (call.Write sector words write)) sectors in cc)

  pub caused : {cause : Cause} {deed : Deed} {act : Act} {messages : List Message} {after : Around}
      → Causes site number node core before cause deed act messages after
      → IsCaused site ledger number spec core before after deed act
  caused by_inner = record {
    act_is = refl;
    no_checkpoint = λ e. absurd (cc);
    backed = tt;
    waiting = λ r among. among;
    requests = λ m stay s. old-requests m stay;
    replies = λ m stay s. old-replies m stay;
    old = λ o. (refl, refl);
    new = λ n. (sectors, refl);
  }
  caused (by_take {found = found} is) =
      let one = chosen-is core.receive before.waiting found is in
      let was = waits found.request one.waited in
      record {
        act_is = refl;
        no_checkpoint = λ e. absurd (cc);
        backed = (
          was.1.0,
          one.block,
          subst (λ p. opener_of site was.1.0
              ≡ Some (record { server = p; place = found.request.opener })) was.0 was.1.1,
          one.there,
          rw (← one.next) was.1.2,
        );
        waiting = λ r among. chosen-rest core.receive before.waiting found r is among;
        requests = λ m stay s. old-requests m stay;
        replies = λ m stay s. old-replies m stay;
        old = λ o. (refl, refl);
        new = λ n. (sectors, refl);
      }
  caused (by_ask {file = file} {words = words}) = record {
    act_is = refl;
    no_checkpoint = λ e. absurd (cc);
    backed = tt;
    waiting = λ r among. among;
    requests = λ m stay s. new-requests m file words (opener_of site (who.File number file)) refl stay s;
    replies = λ m stay s. old-replies m stay;
    old = λ o. (refl, refl);
    new = λ n. (sectors, refl);
  }
  caused (by_answer {place = place} {words = words} {block = block} there) = record {
    act_is = refl;
    no_checkpoint = λ e. absurd (cc);
    backed = tt;
    waiting = λ r among. among;
    requests = λ m stay s. old-requests m stay;
    replies = λ m stay s. new-replies m (record
        { process = number; opener = place; number = block.taken; words = words }) stay (s block there);
    old = λ o. (refl, refl);
    new = λ n. (sectors, refl);
  }
  caused (by_device {call = c} stood) = record {
    act_is = refl;
    no_checkpoint = λ e. absurd (cc);
    backed = ap (λ s. found_on s c) sectors;
    waiting = λ r among. among;
    requests = λ m stay s. old-requests m stay;
    replies = λ m stay s. old-replies m stay;
    old = λ o. (refl, refl);
    new = device-new c stood;
  }
  caused (by_write {sector = sector} {words = words} {write = write} is_new) = record {
    act_is = refl;
    no_checkpoint = λ e. absurd (cc);
    backed = ap (λ s. found_on s (call.Write sector words write)) sectors;
    waiting = λ r among. among;
    requests = λ m stay s. old-requests m stay;
    replies = λ m stay s. old-replies m stay;
    old = λ o. absurd (let same = ap (λ s. is_new_write s (call.Write sector words write)) sectors in cc);
    new = λ n. (ap (λ s. stored_after s sector words write) sectors, refl);
  }
  caused (by_reply {file = file} {words = words} {reply = reply} among is number_is said) = record {
    act_is = refl;
    no_checkpoint = λ e. absurd (cc);
    backed = (
      record { server = reply.process; place = reply.opener },
      reply.number,
      is,
      number_is,
      rw said (answered reply among),
    );
    waiting = λ r i. i;
    requests = λ m stay s. old-requests m stay;
    replies = λ m stay s. old-replies m stay;
    old = λ o. (refl, refl);
    new = λ n. (sectors, refl);
  }
