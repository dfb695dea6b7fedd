-- A processor that stops has no open links, and none when it is loaded again.
use Rattle.std.proofs.Common.{◌&&◌, nat_lt}
use Rattle.std.proofs.Common.{◌≡◌, ◌≢◌, ℕ, ◌+◌, ◌==◌, Bool, true, false, if◌then◌else◌, List, [], ◌∷◌, ◌++◌, map, refl}
use Rattle.std.proofs.Common.{Option, Some, None, slice_get, ap, subst, ◌∙◌}
use Rattle.std.proofs.lemmas.Bool.{ne_eqb}
use Rattle.gd_words.specs.declared.message.Request.{Request}
use Rattle.tal_tree.specs.declared.site.Site.{Site}
use Rattle.world_semantics.specs.declared.role.Role.{Role}
use Rattle.world_semantics.specs.declared.role.Role.TheVariants.{Acting, Watching, Blank, Gone}
use Rattle.world_semantics.specs.Core.{Core}
use Rattle.world_semantics.specs.Messages.{Reloading, Sending, Stopping}
use Rattle.world_semantics.specs.Rules.{Change, new_core, blank_copy, most_reloads, reloaded_by, reloaded_from}
use Rattle.world_semantics.specs.Rules.{copy_with_renewal}
use Rattle.world_semantics.specs.Rules.{stopped_copy, stopped_pair}
use Rattle.world_semantics.specs.Running.{Done}
use Rattle.world_semantics.specs.World.{Copy, Pair, World, is_marked_by_all, is_whole, terminal_node}
use Rattle.world_semantics.proofs.Lists.{some-same}
use Rattle.computed_changes.specs.Stopped.{reload_counted, reload_if, reload_where, reloaded_world, stop_if, stop_where}
use Rattle.computed_changes.specs.Stopped.{stopped_world}
use Rattle.computed_changes.proofs.Stopped.{reload-only, stop-only}
use Rattle.letters.specs.Again.{awaited_by, awaited_from, if_acts_on}
use Rattle.standing_links.specs.Needs.{Name, Needs, nothing}
use Rattle.node_needs.specs.NodeNeeds.{awaited_at, if_there, in_hand_at, in_hand_by, needs_at, of_copies, of_terminals}
use Rattle.node_needs.specs.NodeNeeds.{waiting_at}

module _ {A : Type 0} (x : ℕ) (at : ℕ) (role : Role) (items : List A) where
  away : (at == x) ≡ false → (if at == x then items else []) ≡ []
  away is = ap (λ (b : Bool). if b then items else []) is

  gone-there : (b : Bool) → (at == x) ≡ b → if_there x (if b then Gone else role) at items ≡ []
  gone-there true is = refl
  gone-there false is = by role
    where
      by : (role : Role) → if_there x role at items ≡ []
      by Acting = away is
      by Watching = away is
      by Blank = away is
      by Gone = refl

  gone-acts : (b : Bool) → (at == x) ≡ b → if_acts_on x (if b then Gone else role) at items ≡ []
  gone-acts true is = refl
  gone-acts false is = by role
    where
      by : (role : Role) → if_acts_on x role at items ≡ []
      by Acting = away is
      by Watching = refl
      by Blank = refl
      by Gone = refl

copies-none : {A : Type 0} (x : ℕ) (f : ℕ → Copy → List A) → ((n : ℕ) (copy : Copy) → f n (stopped_copy x copy) ≡ [])
    → (n : ℕ) (pairs : List Pair) → of_copies f n (map (stopped_pair x) pairs) ≡ []
copies-none x f none n [] = refl
copies-none {A} x f none n (pair ∷ pairs) =
    let rest : List A = of_copies f (n + 1) (map (stopped_pair x) pairs) in
    ap (λ (l : List A). l ++ f n (stopped_copy x pair.second) ++ rest) (none n pair.first)
    ∙ ap (λ (l : List A). l ++ rest) (none n pair.second)
    ∙ copies-none x f none (n + 1) pairs

abbrev made : List Request → List Name → List Request → Needs
made waiting in_hand awaited = record { waiting = waiting; in_hand = in_hand; awaited = awaited }

pub stopped-none : (site : Site) (w : World) (x : ℕ) → x ≢ terminal_node
    → needs_at site (stopped_world x w) x ≡ nothing
stopped-none site w x other =
    ap (λ (l : List Request). made l (of_copies (in_hand_at x) 0 pairs) awaited) waiting
    ∙ ap (λ (l : List Name). made [] l awaited) in_hand
    ∙ ap (λ (l : List Request). made [] [] l) none
  where
    pairs : List Pair
    pairs = map (stopped_pair x) w.processes

    entered : List Request
    entered = if x == terminal_node then of_terminals (awaited_from site) 0 w.terminals else []

    awaited : List Request
    awaited = of_copies (awaited_at site x) 0 pairs ++ entered

    waiting : of_copies (λ number copy. waiting_at x copy) 0 pairs ≡ []
    waiting =
        copies-none x (λ number copy. waiting_at x copy)
        (λ n copy. gone-there x copy.processor copy.role copy.waiting (copy.processor == x) refl) 0 w.processes

    in_hand : of_copies (in_hand_at x) 0 pairs ≡ []
    in_hand =
        copies-none x (in_hand_at x)
        (λ n copy. gone-acts x copy.processor copy.role
        (in_hand_by n copy.core.receive copy.core.receive.in_hand) (copy.processor == x) refl) 0 w.processes

    none : awaited ≡ []
    none =
        ap (λ (l : List Request). l ++ entered)
        (copies-none x (awaited_at site x)
        (λ n copy. gone-acts x copy.processor copy.role (awaited_by site n copy.core) (copy.processor == x) refl) 0
        w.processes)
        ∙ ap (λ (b : Bool). if b then of_terminals (awaited_from site) 0 w.terminals else [])
        (ne_eqb x terminal_node other)

pub stop-ends : {site : Site} (w next : World) (processor : ℕ) (sendings : List Sending)
    → Change site w (Stopping processor) sendings next → processor ≢ terminal_node
    → needs_at site next processor ≡ nothing
stop-ends {site = site} w next processor sendings change other =
    by (slice_get w.stopped processor) (stop-only processor w next sendings change)
  where
    where_it : (whole : Bool) → stop_if processor w whole ≡ Some (record { world = next; sendings = sendings })
        → needs_at site next processor ≡ nothing
    where_it false is = absurd (cc)
    where_it true is =
        subst (λ (d : Done). needs_at site d.world processor ≡ nothing) (some-same is)
        (stopped-none site w processor other)

    by : (found : Option Bool) → stop_where processor w found ≡ Some (record { world = next; sendings = sendings })
        → needs_at site next processor ≡ nothing
    by None is = absurd (cc)
    by (Some true) is = absurd (cc)
    by (Some false) is = where_it (is_whole w) is

-- A processor is loaded again

module _ {A : Type 0} (x : ℕ) (f : ℕ → Copy → List A)
    (blank : (n at era : ℕ) (core : Core) → f n (blank_copy at era core) ≡ [])
    (away : (n : ℕ) (copy : Copy) → (copy.processor == x) ≡ false → f n copy ≡ []) where
  abbrev Both : ℕ → Pair → List A → List A
  Both n pair rest = f n pair.first ++ f n pair.second ++ rest

  both-none : (n : ℕ) (pair : Pair) (rest : List A) → f n pair.first ≡ [] → f n pair.second ≡ []
      → Both n pair rest ≡ rest
  both-none n pair rest first second =
      ap (λ (l : List A). l ++ f n pair.second ++ rest) first ∙ ap (λ (l : List A). l ++ rest) second

  pair-none : (core : Core) (n : ℕ) (pair : Pair) (rest : List A) (first second : Bool)
      → (pair.first.processor == x) ≡ first → (pair.second.processor == x) ≡ second
      → Both n (reloaded_by core pair first second) rest ≡ rest
  pair-none core n pair rest false false one two =
      both-none n (reloaded_by core pair false false) rest (away n pair.first one) (away n pair.second two)
  pair-none core n pair rest true false one two =
      both-none n (reloaded_by core pair true false) rest
      (blank n pair.first.processor (pair.second.era + 1) core) (away n (copy_with_renewal pair.second) two)
  pair-none core n pair rest false true one two =
      both-none n (reloaded_by core pair false true) rest (away n (copy_with_renewal pair.first) one)
      (blank n pair.second.processor (pair.first.era + 1) core)
  pair-none core n pair rest true true one two =
      both-none n (reloaded_by core pair true true) rest (blank n pair.first.processor (pair.first.era + 1) core)
      (blank n pair.second.processor (pair.second.era + 1) core)

  reloads-none : (site : Site) (n : ℕ) (pairs : List Pair) → of_copies f n (reloaded_from site x n pairs) ≡ []
  reloads-none site n [] = refl
  reloads-none site n (pair ∷ pairs) =
      pair-none (new_core site n (slice_get site.processes n) pair.first.core) n pair
      (of_copies f (n + 1) (reloaded_from site x (n + 1) pairs)) (pair.first.processor == x)
      (pair.second.processor == x) refl refl
      ∙ reloads-none site (n + 1) pairs

module _ {A : Type 0} (x : ℕ) where
  there-blank : (at : ℕ) → if_there {A = A} x Blank at [] ≡ []
  there-blank at = by (at == x) []
    where
      by : (b : Bool) (none : List A) → (if b then none else none) ≡ none
      by true none = refl
      by false none = refl

  there-away : (role : Role) (at : ℕ) (items : List A) → (at == x) ≡ false → if_there x role at items ≡ []
  there-away Acting at items is = away x at Acting items is
  there-away Watching at items is = away x at Watching items is
  there-away Blank at items is = away x at Blank items is
  there-away Gone at items is = refl

  acts-away : (role : Role) (at : ℕ) (items : List A) → (at == x) ≡ false → if_acts_on x role at items ≡ []
  acts-away Acting at items is = away x at Acting items is
  acts-away Watching at items is = refl
  acts-away Blank at items is = refl
  acts-away Gone at items is = refl

pub reloaded-none : (site : Site) (w : World) (x times : ℕ) → x ≢ terminal_node
    → needs_at site (reloaded_world site x times w) x ≡ nothing
reloaded-none site w x times other =
    ap (λ (l : List Request). made l (of_copies (in_hand_at x) 0 pairs) awaited) waiting
    ∙ ap (λ (l : List Name). made [] l awaited) in_hand
    ∙ ap (λ (l : List Request). made [] [] l) none
  where
    pairs : List Pair
    pairs = reloaded_from site x 0 w.processes

    entered : List Request
    entered = if x == terminal_node then of_terminals (awaited_from site) 0 w.terminals else []

    awaited : List Request
    awaited = of_copies (awaited_at site x) 0 pairs ++ entered

    waiting : of_copies (λ number copy. waiting_at x copy) 0 pairs ≡ []
    waiting =
        reloads-none x (λ number copy. waiting_at x copy) (λ n at era core. there-blank x at)
        (λ n copy is. there-away x copy.role copy.processor copy.waiting is) site 0 w.processes

    in_hand : of_copies (in_hand_at x) 0 pairs ≡ []
    in_hand =
        reloads-none x (in_hand_at x) (λ n at era core. refl)
        (λ n copy is. acts-away x copy.role copy.processor
        (in_hand_by n copy.core.receive copy.core.receive.in_hand) is) site 0 w.processes

    none : awaited ≡ []
    none =
        ap (λ (l : List Request). l ++ entered)
        (reloads-none x (awaited_at site x) (λ n at era core. refl)
        (λ n copy is. acts-away x copy.role copy.processor (awaited_by site n copy.core) is) site 0 w.processes)
        ∙ ap (λ (b : Bool). if b then of_terminals (awaited_from site) 0 w.terminals else [])
        (ne_eqb x terminal_node other)

pub reload-begins : {site : Site} (w next : World) (processor : ℕ) (sendings : List Sending)
    → Change site w (Reloading processor) sendings next → processor ≢ terminal_node
    → needs_at site next processor ≡ nothing
reload-begins {site = site} w next processor sendings change other =
    by (slice_get w.stopped processor) (reload-only processor w next sendings change)
  where
    Is : Option Done → Type 0
    Is found = found ≡ Some (record { world = next; sendings = sendings })

    where_it : (times : ℕ) (free : Bool) → Is (reload_if site processor times w free)
        → needs_at site next processor ≡ nothing
    where_it times false is = absurd (cc)
    where_it times true is =
        subst (λ (d : Done). needs_at site d.world processor ≡ nothing) (some-same is)
        (reloaded-none site w processor times other)

    counted : (times : Option ℕ) → Is (reload_counted site processor w times)
        → needs_at site next processor ≡ nothing
    counted None is = absurd (cc)
    counted (Some times) is = where_it times (is_marked_by_all w processor && nat_lt times most_reloads) is

    by : (found : Option Bool) → Is (reload_where site processor w found) → needs_at site next processor ≡ nothing
    by None is = absurd (cc)
    by (Some false) is = absurd (cc)
    by (Some true) is = counted (slice_get w.reloads processor) is
