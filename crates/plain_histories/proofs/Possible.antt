-- Booked acts are possible, and show what is booked.
use Rattle.std.proofs.Common.{◌≡◌, ℕ, List, [], ◌∷◌, ◌++◌, length, reverse, option_map, Some, refl, ap, sym, ◌∙◌}
use Rattle.std.proofs.lemmas.List.{reverse-append}
use Rattle.gd_words.specs.declared.device.DeviceCall.TheVariants as call
use Rattle.tal_tree.specs.declared.act.Act.{Act}
use Rattle.tal_tree.specs.declared.act.Act.TheVariants.{Enter, Print}
use Rattle.tal_tree.specs.declared.act.Shown.{Shown}
use Rattle.tal_tree.specs.declared.act.Shown.TheVariants.{Reply}
use Rattle.tal_tree.specs.declared.site.Site.{Site}
use Rattle.plain_semantics.specs.Machine.{Plain, made_before, made_all, plain_start}
use Rattle.plain_semantics.proofs.Runs.{made_all-snoc}
use Rattle.process_histories.specs.world_semantics.specs.Core.{Deed, Went, Checkpointed, Took, Asked, Got, Answered}
use Rattle.process_histories.specs.world_semantics.specs.Core.{Acted}
use Rattle.plain_histories.specs.Agreeing.{AreRegular, Agrees}
use Rattle.plain_histories.specs.Booking.{act_of, shown_of, AreBooked, none_booked, deed_booked, entry_booked}
use Rattle.plain_histories.specs.Booking.{reply_booked}
use Rattle.plain_histories.specs.Ledgers.{Ledger}
use Rattle.plain_histories.proofs.Beginning.{beginning-agrees}
use Rattle.plain_histories.proofs.Doing.{IsMade, deed-made}
use Rattle.plain_histories.proofs.Terminals.{entry-made, reply-made}

-- the machine after acts, the newest first, which showed this
pub record HasRun (site : Site) (acts : List Act) (shown : List Shown) (ledger : Ledger) : Type 0 where
  pub plain : Plain
  pub ran : made_all site (plain_start site) (reverse acts) ≡ Some (record { plain = plain; shown = reverse shown })
  pub agrees : Agrees site plain ledger

one-more : {site : Site} {acts : List Act} {shown : List Shown} {ledger more : Ledger} (act : Act) (said : List Shown)
    → HasRun site acts shown ledger
    → ((plain : Plain) → Agrees site plain ledger → IsMade site plain act (reverse said) more)
    → HasRun site (act ∷ acts) (said ++ shown) more
one-more {site = site} {acts = acts} {shown = shown} act said run makes =
    let is = makes run.plain run.agrees in
    record {
      plain = is.next;
      ran = ap (made_all site (plain_start site)) (reverse-append (act ∷ []) acts)
          ∙ made_all-snoc site (reverse acts) act (plain_start site)
          (record { plain = run.plain; shown = reverse shown }) run.ran
          ∙ ap (option_map (made_before (reverse shown))) is.makes
          ∙ ap (λ (all : List Shown). Some (record { plain = is.next; shown = all })) (sym (reverse-append said shown));
      agrees = is.agrees;
    }

-- a deed shows at most one thing
shown-one : (number : ℕ) (deed : Deed) → shown_of number deed ≡ reverse (shown_of number deed)
shown-one number Went = refl
shown-one number Checkpointed = refl
shown-one number (Took place words) = refl
shown-one number (Asked file words) = refl
shown-one number (Got file words) = refl
shown-one number (Answered place words) = refl
shown-one number (Acted call.Nothing found) = refl
shown-one number (Acted (call.Read sector) found) = refl
shown-one number (Acted (call.Write sector words write) found) = refl

turned : {site : Site} {plain : Plain} {act : Act} {said same : List Shown} {ledger : Ledger} → said ≡ same
    → IsMade site plain act said ledger → IsMade site plain act same ledger
turned {plain = plain} {act = act} e is =
    record {
      next = is.next;
      makes = is.makes
          ∙ ap (λ (all : List Shown). Some (record { plain = is.next; shown = all })) e;
      agrees = is.agrees;
    }

pub booked-ran : {site : Site} {acts : List Act} {shown : List Shown} {ledger : Ledger} → AreRegular site
    → AreBooked site acts shown ledger → HasRun site acts shown ledger
booked-ran {site = site} regular none_booked =
    record { plain = plain_start site; ran = refl; agrees = beginning-agrees site }
booked-ran {site = site} regular (deed_booked {ledger = ledger} number spec deed before after booked there done
    advances allowed) =
    one-more (act_of number deed) (shown_of number deed) (booked-ran regular booked)
    (λ plain agrees. turned (shown-one number deed)
    (deed-made site plain ledger number spec deed before after regular agrees there done advances allowed))
booked-ran {site = site} regular (entry_booked {ledger = ledger} terminal opener words booked is even next) =
    one-more (Enter terminal) [] (booked-ran regular booked)
    (λ plain agrees. entry-made site plain ledger terminal opener words agrees is even next)
booked-ran {site = site} regular (reply_booked {ledger = ledger} terminal opener words booked is ready) =
    one-more (Print terminal) (Reply terminal (length (ledger.entered terminal)) words ∷ []) (booked-ran regular booked)
    (λ plain agrees. reply-made site plain ledger terminal opener words agrees is ready)
