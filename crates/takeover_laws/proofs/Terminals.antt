-- What terminals enter and print keeps the invariant.
use Rattle.std.proofs.Common.{◌≡◌, ◌⊎◌, inl, inr, ℕ, ◌+◌, ℤ, List, ◌∷◌, length, Some, slice_get, slice_set, refl, sym}
use Rattle.std.proofs.Common.{◌∙◌, subst, arith}
use Rattle.gd_words.specs.Members.{IsAmong}
use Rattle.gd_words.specs.declared.message.Request.{Request}
use Rattle.gd_words.specs.declared.message.Reply.{Reply}
use Rattle.tal_tree.specs.declared.act.Act.TheVariants.{Enter, Print}
use Rattle.tal_tree.specs.declared.act.Shown.TheVariants as shown
use Rattle.tal_tree.specs.declared.site.Site.{Site}
use Rattle.tal_tree.specs.declared.site.Who.TheVariants as who
use Rattle.world_semantics.specs.plain_semantics.specs.Machine.{next_request}
use Rattle.world_semantics.specs.plain_semantics.specs.Openers.{opener_of}
use Rattle.world_semantics.specs.plain_semantics.specs.declared.slot.Opener.{Opener}
use Rattle.world_semantics.specs.Rules.{entered_request}
use Rattle.world_semantics.specs.World.{Terminal, World}
use Rattle.plain_histories.specs.process_histories.proofs.Places.{set-one}
use Rattle.plain_histories.specs.Booking.{AreBooked, entry_booked, reply_booked}
use Rattle.plain_histories.specs.Ledgers.{with_entered, with_printed, answered_of}
use Rattle.plain_histories.specs.Slots.{IsEntry, is_newest}
use Rattle.plain_histories.proofs.Changed.{changed-same, changed-other}
use Rattle.plain_histories.proofs.Entries.{entry-stays, entered-grown, answered-next}
use Rattle.plain_histories.proofs.Held.{awaits-entry, awaits-reply}
use Rattle.plain_histories.proofs.Possible.{booked-ran}
use Rattle.plain_histories.proofs.Terminals.{requests-printed}
use Rattle.takeover_laws.specs.Fit.{IsFit}
use Rattle.takeover_laws.specs.Invariant.{IsAsked, IsSoundTerminal, Invariant}
use Rattle.takeover_laws.proofs.Frame.{process-frame, asked-more, answered-more}
use Rattle.takeover_laws.proofs.Settled.{IsLeft, Keeps}

module _ (site : Site) (fit : IsFit site) where
  pub enter-keeps : (events : ℕ) (w : World) (inv : Invariant site events w) (number : ℕ) (terminal : Terminal)
      (opener : Opener) (words : List ℤ)
      → slice_get w.terminals number ≡ Some terminal → terminal.entered ≡ terminal.printed
      → next_request site number terminal.entered ≡ Some words
      → opener_of site (who.Terminal number) ≡ Some opener
      → Invariant site (events + 1) (record w {
        requests = entered_request opener terminal words ∷ w.requests;
        terminals = slice_set w.terminals number (record terminal { entered = terminal.entered + 1 });
        kept = Enter number ∷ w.kept;
      })
  enter-keeps events w inv number terminal opener words at free next is =
      let was = inv.terminals number terminal at in
      let one = was.entered in
      let two = was.printed in
      let even : length (inv.ledger.entered number) ≡ length (inv.ledger.printed number) =
      omega (arith, free, one, two) in
      record {
        ledger = with_entered number words inv.ledger;
        booked = entry_booked number opener words inv.booked is even
            (subst (λ n. next_request site number n ≡ Some words) was.entered next);
        processes = λ other pair there. let old = inv.processes other pair there in
            (old.0, old.1, process-frame (events + 1) (omega arith) (left other even) stay old.2);
        requests = asked;
        replies = λ reply among. answered-more stay reply (inv.replies reply among);
        terminals = set-one (IsSoundTerminal (with_entered number words inv.ledger)) w.terminals number
            (record terminal { entered = terminal.entered + 1 })
            (λ other old apart there. (let so = inv.terminals other old there in
            record {
              entered = rw (changed-other number other (words ∷ inv.ledger.entered number) inv.ledger.entered
                  apart) so.entered;
              printed = so.printed;
            }))
            (λ _ _. record {
              entered = rw (changed-same number (words ∷ inv.ledger.entered number) inv.ledger.entered)
                  (omega (arith, one));
              printed = was.printed;
            });
      }
    where
      left : (other : ℕ) → length (inv.ledger.entered number) ≡ length (inv.ledger.printed number)
          → IsLeft site inv.ledger (with_entered number words inv.ledger) other
      left other even = record {
        deeds = refl;
        waits = λ place said awaits. awaits-entry number words (record { server = other; place = place }) said
            fit.regular inv.booked even awaits;
      }

      stay : Keeps inv.ledger (with_entered number words inv.ledger)
      stay = record {
        asked = λ one n said entry. entry-stays (entered-grown number words inv.ledger one) entry;
        answered = λ one n said entry. entry;
      }

      asked : (request : Request) → (request ≡ entered_request opener terminal words) ⊎ IsAmong request w.requests
          → IsAsked site (with_entered number words inv.ledger) request
      asked request (inl same) =
          let one = (inv.terminals number terminal at).entered in
          rw same (
            who.Terminal number,
            is,
            rw (changed-same number (words ∷ inv.ledger.entered number)
                inv.ledger.entered) (is_newest {older = inv.ledger.entered number} (omega (arith, one))),
          )
      asked request (inr among) = asked-more site stay request (inv.requests request among)

  pub print-keeps : (events : ℕ) (w : World) (inv : Invariant site events w) (number : ℕ) (terminal : Terminal)
      (reply : Reply)
      → slice_get w.terminals number ≡ Some terminal → terminal.entered ≡ terminal.printed + 1 → IsAmong reply w.replies
      → opener_of site (who.Terminal number) ≡ Some (record { server = reply.process; place = reply.opener })
      → reply.number ≡ terminal.entered
      → Invariant site (events + 1) (record w {
        terminals = slice_set w.terminals number (record terminal { printed = terminal.printed + 1 });
        shown = shown.Reply number reply.number reply.words ∷ w.shown;
        kept = Print number ∷ w.kept;
      })
  print-keeps events w inv number terminal reply at free among is last =
      let was = inv.terminals number terminal at in
      let one = was.entered in
      let two = was.printed in
      let slot = (booked-ran fit.regular inv.booked).agrees.slots (who.Terminal number)
      (record { server = reply.process; place = reply.opener }) is in
      let same : reply.number ≡ length (inv.ledger.entered number) = last ∙ was.entered in
      let ready = (answered-next slot.2 (omega (arith, free, one, two))
      (subst (λ n. IsEntry n reply.words (answered_of inv.ledger
      (record { server = reply.process; place = reply.opener }))) same (inv.replies reply among))).1 in
      record {
        ledger = with_printed number reply.words inv.ledger;
        booked = subst (λ n. AreBooked site (Print number ∷ w.kept) (shown.Reply number n reply.words ∷ w.shown)
            (with_printed number reply.words inv.ledger)) (sym same)
            (reply_booked number (record { server = reply.process; place = reply.opener }) reply.words inv.booked is
            ready);
        processes = λ other pair there. let old = inv.processes other pair there in
            (old.0, old.1, process-frame (events + 1) (omega arith) (left other) stay old.2);
        requests = λ request i. asked-more site stay request (inv.requests request i);
        replies = λ other i. answered-more stay other (inv.replies other i);
        terminals = set-one (IsSoundTerminal (with_printed number reply.words inv.ledger)) w.terminals number
            (record terminal { printed = terminal.printed + 1 })
            (λ other old apart there. (let so = inv.terminals other old there in
            record {
              entered = so.entered;
              printed =
                  rw (changed-other number other (reply.words ∷ inv.ledger.printed number) inv.ledger.printed apart)
                  so.printed;
            }))
            (λ _ _. record {
              entered = was.entered;
              printed = rw (changed-same number (reply.words ∷ inv.ledger.printed number) inv.ledger.printed)
                  (omega (arith, two));
            });
      }
    where
      left : (other : ℕ) → IsLeft site inv.ledger (with_printed number reply.words inv.ledger) other
      left other = record {
        deeds = refl;
        waits = λ place said awaits.
            awaits-reply site inv.ledger number reply.words (record { server = other; place = place }) said awaits;
      }

      stay : Keeps inv.ledger (with_printed number reply.words inv.ledger)
      stay = record {
        asked = λ one n said entry. rw (requests-printed inv.ledger number reply.words one) entry;
        answered = λ one n said entry. entry;
      }
