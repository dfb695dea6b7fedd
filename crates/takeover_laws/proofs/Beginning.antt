-- The beginning: no process has done anything.
use Rattle.std.proofs.Common.{◌≡◌, ℕ, zero, suc, ◌+◌, List, [], ◌∷◌, Some, slice_get, refl, ap, sym, subst, ◌∙◌, arith}
use Rattle.gd_words.specs.Members.{IsAmong}
use Rattle.gd_words.specs.declared.message.Request.{Request}
use Rattle.tal_tree.specs.declared.site.ProcessSpec.{ProcessSpec}
use Rattle.tal_tree.specs.declared.site.Site.{Site}
use Rattle.tal_tree.specs.declared.site.TerminalSpec.{TerminalSpec}
use Rattle.world_semantics.specs.declared.which.Which.{Which}
use Rattle.world_semantics.specs.declared.which.Which.TheVariants.{First, Second}
use Rattle.world_semantics.specs.World.{Pair, Terminal, boot, pair_at_boot, pairs_at_boot, copy_of}
use Rattle.world_semantics.proofs.Lists.{some-same, mapped}
use Rattle.plain_histories.specs.process_histories.specs.Histories.{nothing_done}
use Rattle.plain_histories.specs.Booking.{none_booked, none_held}
use Rattle.plain_histories.specs.Ledgers.{empty_ledger}
use Rattle.takeover_laws.specs.Invariant.{is_level, is_even, with_other, by_first, IsAsked, IsSound, IsSoundTerminal}
use Rattle.takeover_laws.specs.Invariant.{Invariant}

pub first-pair : (site : Site) (from : ℕ) (specs : List ProcessSpec) (k : ℕ) (pair : Pair)
    → slice_get (pairs_at_boot site from specs) k ≡ Some pair
    → (spec : ProcessSpec) × (slice_get specs k ≡ Some spec) × (pair ≡ pair_at_boot site (from + k) spec)
first-pair site from [] k pair at = absurd (cc)
first-pair site from (spec ∷ specs) zero pair at =
    (spec, refl, sym (some-same at) ∙ ap (λ n. pair_at_boot site n spec) (omega arith))
first-pair site from (spec ∷ specs) (suc k) pair at =
    let rest = first-pair site (from + 1) specs k pair at in
    (rest.0, rest.1, rest.2 ∙ ap (λ n. pair_at_boot site n rest.0) (omega arith))

-- at its beginning the first copy leads, and no checkpoint is due
pub first-sound : (site : Site) (number : ℕ) (spec : ProcessSpec)
    → IsSound site empty_ledger 0 number spec (pair_at_boot site number spec)
first-sound site number spec = record {
  led = by_first (with_other refl (is_level {more = []} refl none_held refl nothing_done (λ sent. absurd (cc)))
      (is_even (λ e. absurd (cc)) (record {
        since = [];
        before = [];
        split = refl;
        repeatable = tt;
        base = refl;
        done = nothing_done;
        role = refl;
        unsent = refl;
        era = refl;
        checkpoints = λ m among. absurd among;
        takens = λ t among. absurd among;
      }) refl refl refl refl)
      (record { other = omega arith; checkpoints = λ m among. absurd among; takens = λ t among. absurd among }));
  sectors = refl;
  waiting = none-waits;
  count = omega arith;
}
  where
    none-waits : (k : Which) (request : Request) → IsAmong request (copy_of k (pair_at_boot site number spec)).waiting
        → (request.process ≡ number) × IsAsked site empty_ledger request
    none-waits First request among = absurd among
    none-waits Second request among = absurd among

pub beginning-keeps : (site : Site) → Invariant site 0 (boot site)
beginning-keeps site = record {
  ledger = empty_ledger;
  booked = none_booked;
  processes = processes;
  requests = λ request among. absurd among;
  replies = λ reply among. absurd among;
  terminals = terminals;
}
  where
    processes : (number : ℕ) (pair : Pair) → slice_get (boot site).processes number ≡ Some pair
        → (spec : ProcessSpec) × (slice_get site.processes number ≡ Some spec)
        × IsSound site empty_ledger 0 number spec pair
    processes number pair at =
        let first = first-pair site 0 site.processes number pair at in
        let is : pair ≡ pair_at_boot site number first.0 =
        first.2 ∙ ap (λ n. pair_at_boot site n first.0) (omega arith) in (
          first.0,
          first.1,
          subst (λ p. IsSound site empty_ledger 0 number first.0 p) (sym is)
              (first-sound site number first.0),
        )

    terminals : (number : ℕ) (terminal : Terminal) → slice_get (boot site).terminals number ≡ Some terminal
        → IsSoundTerminal empty_ledger number terminal
    terminals number terminal at =
        let from = mapped (λ (t : TerminalSpec). record { entered = 0; printed = 0 }) site.terminals number terminal
        at in
        record { entered = ap (λ (t : Terminal). t.entered) from.2; printed = ap (λ (t : Terminal). t.printed) from.2 }
