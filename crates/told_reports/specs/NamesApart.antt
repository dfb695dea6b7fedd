-- Sites on which names tell processes, terminals and openers apart, and the acts that they have.
use Rattle.std.specs.Prelude.{◌≡◌, ◌<◌, ◌==◌, ℕ, false, List, length, slice_get, Some}
use Rattle.std.specs.List.{list_any}
use Rattle.plain_semantics.specs.Openers.{openers_of}
use Rattle.tal_tree.specs.declared.act.Act.{Act}
use Rattle.tal_tree.specs.declared.act.Act.TheVariants.{Step, Take, Enter, Print}
use Rattle.tal_tree.specs.declared.site.OpenerSpec.{OpenerSpec}
use Rattle.tal_tree.specs.declared.site.ProcessSpec.{ProcessSpec}
use Rattle.tal_tree.specs.declared.site.Site.{Site}
use Rattle.tal_tree.specs.declared.site.TerminalSpec.{TerminalSpec}
use Rattle.trace_print.specs.ActLine.{who_name}

-- what stands at two places of a list under one name stands at one place
abbrev pub AreApart : {X : Type 0} → (X → List ℕ) → List X → Type 0
AreApart {X = X} name all = (m n : ℕ) (one other : X) → slice_get all m ≡ Some one → slice_get all n ≡ Some other
    → name one ≡ name other → m ≡ n

-- a name has no space and no line feed
abbrev pub IsPlainName : List ℕ → Type 0
IsPlainName name = (list_any (λ c. c == 32) name ≡ false) × (list_any (λ c. c == 10) name ≡ false)

-- no two processes have one name, no two terminals, and no two openers of a process; names have no spaces, and no line
-- feeds
pub record TellsNamesApart (site : Site) : Type 0 where
  pub processes : AreApart (λ (one : ProcessSpec). one.name) site.processes
  pub terminals : AreApart (λ (one : TerminalSpec). one.name) site.terminals
  pub openers : (process : ℕ) → AreApart (λ (one : OpenerSpec). who_name site one.who) (openers_of site process)
  pub plain_processes : (n : ℕ) (one : ProcessSpec) → slice_get site.processes n ≡ Some one → IsPlainName one.name
  pub plain_terminals : (n : ℕ) (one : TerminalSpec) → slice_get site.terminals n ≡ Some one → IsPlainName one.name
  pub whole_openers : (process n : ℕ) (one : OpenerSpec) → slice_get (openers_of site process) n ≡ Some one
      → list_any (λ c. c == 10) (who_name site one.who) ≡ false

-- the site has what the act names
abbrev pub IsNamedAct : Site → Act → Type 0
IsNamedAct site (Step process) = process < length site.processes
IsNamedAct site (Take process opener) =
    (process < length site.processes) × (opener < length (openers_of site process))
IsNamedAct site (Enter terminal) = terminal < length site.terminals
IsNamedAct site (Print terminal) = terminal < length site.terminals
