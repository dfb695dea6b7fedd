-- A reload raises eras by one, and sends nothing.
use Rattle.std.proofs.Common.{◌≡◌, ◌≤◌, ◌<◌, ℕ, ◌+◌, ◌==◌, ◌&&◌, nat_lt, Bool, true, false, List, [], ◌∷◌, length}
use Rattle.std.proofs.Common.{Option}
use Rattle.std.proofs.Common.{Some, None, slice_get, refl, subst, arith}
use Rattle.std.proofs.lemmas.Bool.{ltb-true}
use Rattle.tal_tree.specs.declared.site.ProcessSpec.{ProcessSpec}
use Rattle.tal_tree.specs.declared.site.Site.{Site}
use Rattle.process_semantics.specs.Process.{start_of}
use Rattle.world_semantics.specs.Core.{Core}
use Rattle.world_semantics.specs.Rules.{new_core, most_reloads, reloaded_by, reloaded_from}
use Rattle.world_semantics.specs.Running.{Done}
use Rattle.world_semantics.specs.World.{Pair, World, is_marked_by_all}
use Rattle.world_semantics.proofs.Roles.{both-true, reload-all}
use Rattle.computed_changes.specs.Stopped.{reload_counted, reload_done, reload_if, reload_where, reloaded_world}
use Rattle.number_laws.proofs.Boot.{boot-core}
use Rattle.number_laws.proofs.Within.{AnyWithin, CoreWithin, PairWithin, WorldWithin, core-more, held_in, held_of}
use Rattle.number_laws.proofs.Within.{pair-more, serves, terminals-more}

-- Whether it is made

-- a processor was loaded again so often, and not too often
pub record CanReload (w : World) (processor times : ℕ) : Type 0 where
  pub there : slice_get w.reloads processor ≡ Some times
  pub few : times < most_reloads

abbrev pub reloads_to : Site → ℕ → ℕ → World → Done
reloads_to site processor times w = record { world = reloaded_world site processor times w; sendings = [] }

-- what holds where none is made, and where one is, holds of a reload
pub reload-cases : (P : Option Done → Type 0) (site : Site) (processor : ℕ) (w : World) → P None
    → ((times : ℕ) → CanReload w processor times → P (Some (reloads_to site processor times w)))
    → P (reload_done site processor w)
reload-cases P site processor w none some = by (slice_get w.stopped processor)
  where
    loaded : (times : ℕ) → slice_get w.reloads processor ≡ Some times → (may : Bool)
        → (is_marked_by_all w processor && nat_lt times most_reloads) ≡ may → P (reload_if site processor times w may)
    loaded times there false may = none
    loaded times there true may =
        let both = both-true (is_marked_by_all w processor) (nat_lt times most_reloads) may in
        some times (record { there = there; few = ltb-true times most_reloads both.1 })

    counted : (times : Option ℕ) → slice_get w.reloads processor ≡ times
        → P (reload_counted site processor w times)
    counted None there = none
    counted (Some times) there =
        loaded times there (is_marked_by_all w processor && nat_lt times most_reloads) refl

    by : (stopped : Option Bool) → P (reload_where site processor w stopped)
    by None = none
    by (Some false) = none
    by (Some true) = counted (slice_get w.reloads processor) refl

-- One process

held-falls : (core : Core) (pair : Pair) (one two : Bool) → held_of (reloaded_by core pair one two) ≤ held_of pair
held-falls core pair false false = omega arith
held-falls core pair true false = omega arith
held-falls core pair false true = omega arith
held-falls core pair true true = omega arith

one-within : (n : ℕ) (d : Bool) (core : Core) (pair : Pair) → CoreWithin (n + 1) d core → PairWithin n d pair
    → (one two : Bool) → PairWithin (n + 1) d (reloaded_by core pair one two)
one-within n d core pair fresh is false false = pair-more (n + 1) n d pair (omega arith) is
one-within n d core pair fresh is true false =
    let later = pair-more (n + 1) n d pair (omega arith) is in
    let era = is.1.2 in (
      (fresh, omega arith, omega (arith, era), omega arith, omega arith),
      (later.1.0, omega arith, omega (arith, era), later.1.3, later.1.4),
      later.2,
    )
one-within n d core pair fresh is false true =
    let later = pair-more (n + 1) n d pair (omega arith) is in
    let era = is.0.2 in (
      (later.0.0, omega arith, omega (arith, era), later.0.3, later.0.4),
      (fresh, omega arith, omega (arith, era), omega arith, omega arith),
      later.2,
    )
one-within n d core pair fresh is true true =
    let later = pair-more (n + 1) n d pair (omega arith) is in
    let first = is.0.2 in
    let second = is.1.2 in (
      (fresh, omega arith, omega (arith, first), omega arith, omega arith),
      (fresh, omega arith, omega (arith, second), omega arith, omega arith),
      later.2,
    )

begun-within : (n : ℕ) (d : Bool) (site : Site) (number : ℕ) (spec : Option ProcessSpec) (core : Core)
    → ((one : ProcessSpec) → spec ≡ Some one → serves (start_of one.what) ≡ d) → CoreWithin n d core
    → CoreWithin n d (new_core site number spec core)
begun-within n d site number None core are is = is
begun-within n d site number (Some spec) core are is =
    core-more n 0 d (new_core site number (Some spec) core) (omega arith)
    (subst (λ (disc : Bool). CoreWithin 0 disc (new_core site number (Some spec) core)) (are spec refl)
    (boot-core site number spec))

-- All processes

pub reloaded-length : (site : Site) (x from : ℕ) (pairs : List Pair)
    → length (reloaded_from site x from pairs) ≡ length pairs
reloaded-length site x from [] = refl
reloaded-length site x from (pair ∷ pairs) = let rest = reloaded-length site x (from + 1) pairs in omega (arith, rest)

reloaded-held : (site : Site) (x from : ℕ) (pairs : List Pair)
    → held_in (reloaded_from site x from pairs) ≤ held_in pairs
reloaded-held site x from [] = omega arith
reloaded-held site x from (pair ∷ pairs) =
    let one = held-falls (new_core site from (slice_get site.processes from) pair.first.core) pair
    (pair.first.processor == x) (pair.second.processor == x) in
    let rest = reloaded-held site x (from + 1) pairs in
    omega (arith, one, rest)

-- which processes of a site are discs is told by their numbers
abbrev pub AreKinds : (ℕ → Bool) → Site → Type 0
AreKinds kinds site =
    (number : ℕ) (spec : ProcessSpec) → slice_get site.processes number ≡ Some spec
    → serves (start_of spec.what) ≡ kinds number

pub reload-within : (n : ℕ) (kinds : ℕ → Bool) (w : World) → WorldWithin n kinds w → (site : Site)
    → AreKinds kinds site → (processor : ℕ) → AnyWithin (n + 1) kinds (reload_done site processor w)
reload-within n kinds w within site are processor =
    reload-cases (AnyWithin (n + 1) kinds) site processor w tt (λ times can. record {
      world = record {
        pairs = reload-all (λ number pair. PairWithin (n + 1) (kinds number) pair) site processor w.processes one;
        acts =
            let acts = within.acts in
            let falls = reloaded-held site processor 0 w.processes in
            omega (arith, acts, falls);
        shown = let few = within.shown in omega (arith, few);
        terminals = terminals-more (n + 1) n w.terminals (omega arith) within.terminals;
      };
      sendings = tt;
    })
  where
    one : (number : ℕ) (pair : Pair) → slice_get w.processes number ≡ Some pair
        → PairWithin (n + 1) (kinds number) (reloaded_by (new_core site number (slice_get site.processes number)
        pair.first.core) pair (pair.first.processor == processor) (pair.second.processor == processor))
    one number pair there =
        let is = within.pairs number pair there in
        one-within n (kinds number) (new_core site number (slice_get site.processes number) pair.first.core) pair
        (begun-within (n + 1) (kinds number) site number (slice_get site.processes number) pair.first.core
        (are number) (core-more (n + 1) n (kinds number) pair.first.core (omega arith) is.0.0)) is
        (pair.first.processor == processor) (pair.second.processor == processor)
