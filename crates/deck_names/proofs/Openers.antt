-- The openers of a process: each stands once, and is a file or a terminal of the site.
use Rattle.std.proofs.Common.{◌≡◌, ℕ, zero, suc, ◌+◌, ◌<◌, ◌≤◌, Bool, true, false, nat_eq, if◌then◌else◌, List, []}
use Rattle.std.proofs.Common.{◌∷◌, length, slice_get, Option, Some, None, ◌⊎◌, inl, inr, refl, sym, ap, ◌∙◌}
use Rattle.std.proofs.Common.{subst, arith}
use Rattle.plain_semantics.specs.Openers.{file_opener, files_from, files_of, openers_by, openers_of, opens}
use Rattle.plain_semantics.specs.Openers.{processes_from, terminal_opener, terminals_from}
use Rattle.tal_tree.specs.declared.program.FileUse.{FileUse}
use Rattle.tal_tree.specs.declared.site.OpenerSpec.{OpenerSpec}
use Rattle.tal_tree.specs.declared.site.ProcessSpec.{ProcessSpec}
use Rattle.tal_tree.specs.declared.site.Site.{Site}
use Rattle.tal_tree.specs.declared.site.TerminalSpec.{TerminalSpec}
use Rattle.tal_tree.specs.declared.site.Who.{Who}
use Rattle.tal_tree.specs.declared.site.Who.TheVariants as who
use Rattle.deck_names.proofs.Places.{AreOnce, IsBehind, get-both, once-both, once-none}

abbrev pub who_of : OpenerSpec → Who
who_of opener = opener.who

-- at most one stands here
few-once : (b : Bool) (one : OpenerSpec) → AreOnce who_of (if b then one ∷ [] else [])
few-once true one zero zero x y a c same = refl
few-once true one zero (suc n) x y a c same = absurd (cc c)
few-once true one (suc m) n x y a c same = absurd (cc a)
few-once false one m n x y a c same = absurd (cc a)

few-is : (b : Bool) (one x : OpenerSpec) (n : ℕ) → slice_get (if b then one ∷ [] else []) n ≡ Some x → one ≡ x
few-is true one x zero there = cc there
few-is true one x (suc n) there = absurd (cc there)
few-is false one x n there = absurd (cc there)

-- a file of this process, from a number on
record IsFileFrom (process number count : ℕ) (one : Who) : Type 0 where
  file : ℕ
  is : one ≡ who.File process file
  low : number ≤ file
  high : file < number + count

file-in : (name : List ℕ) (process number : ℕ) (files : List FileUse) (n : ℕ) (one : OpenerSpec)
    → slice_get (files_from name process number files) n ≡ Some one
    → IsFileFrom process number (length files) (who_of one)
file-in name process number [] n one there = absurd (cc there)
file-in name process number (file ∷ files) n one there =
    by (λ place e. file-in name process (number + 1) files place one e)
    (get-both (file_opener name process number file) (files_from name process (number + 1) files) n one there)
  where
    by : ((place : ℕ) → slice_get (files_from name process (number + 1) files) place ≡ Some one
        → IsFileFrom process (number + 1) (length files) (who_of one))
        → (slice_get (file_opener name process number file) n ≡ Some one)
        ⊎ IsBehind (file_opener name process number file) (files_from name process (number + 1) files) n one
        → IsFileFrom process number (length (file ∷ files)) (who_of one)
    by rest (inl e) = record {
      file = number;
      is = sym (ap who_of (few-is (opens name file.target)
          (record { who = who.File process number; depth = file.depth }) one n e));
      low = omega arith;
      high = omega arith;
    }
    by rest (inr e) =
        let later = rest e.place e.there in
        record {
          file = later.file;
          is = later.is;
          low = omega (arith, later.low);
          high = omega (arith, later.high);
        }

file-number : Who → ℕ
file-number (who.File process file) = file
file-number (who.Terminal terminal) = terminal

files-once : (name : List ℕ) (process number : ℕ) (files : List FileUse)
    → AreOnce who_of (files_from name process number files)
unfolding file-number
files-once name process number [] = once-none who_of
files-once name process number (file ∷ files) =
    let one : OpenerSpec = record { who = who.File process number; depth = file.depth } in
    once-both who_of (file_opener name process number file) (files_from name process (number + 1) files)
    (few-once (opens name file.target) one) (files-once name process (number + 1) files)
    (λ m n x y a b same.
    let later = file-in name process (number + 1) files n y b in
    let e : ◌≡◌ {A = ℕ} number later.file =
    ap file-number (ap who_of (few-is (opens name file.target) one x m a) ∙ same ∙ later.is) in
    omega (arith, e, later.low))

-- a file of one of these processes, from a number on
record IsFileIn (number : ℕ) (processes : List ProcessSpec) (one : Who) : Type 0 where
  place : ℕ
  file : ℕ
  spec : ProcessSpec
  is : one ≡ who.File (number + place) file
  there : slice_get processes place ≡ Some spec
  high : file < length (files_of spec.what)

process-in : (name : List ℕ) (number : ℕ) (processes : List ProcessSpec) (n : ℕ) (one : OpenerSpec)
    → slice_get (processes_from name number processes) n ≡ Some one → IsFileIn number processes (who_of one)
process-in name number [] n one there = absurd (cc there)
process-in name number (process ∷ processes) n one there =
    by (λ place e. process-in name (number + 1) processes place one e)
    (get-both (files_from name number 0 (files_of process.what)) (processes_from name (number + 1) processes) n one
    there)
  where
    by : ((place : ℕ) → slice_get (processes_from name (number + 1) processes) place ≡ Some one
        → IsFileIn (number + 1) processes (who_of one))
        → (slice_get (files_from name number 0 (files_of process.what)) n ≡ Some one)
        ⊎ IsBehind (files_from name number 0 (files_of process.what)) (processes_from name (number + 1) processes) n
        one
        → IsFileIn number (process ∷ processes) (who_of one)
    by rest (inl e) =
        let file = file-in name number 0 (files_of process.what) n one e in
        record {
          place = 0;
          file = file.file;
          spec = process;
          is = file.is ∙ ap (λ (p : ℕ). who.File p file.file) (omega arith);
          there = refl;
          high = omega (arith, file.high);
        }
    by rest (inr e) =
        let later = rest e.place e.there in
        record {
          place = suc later.place;
          file = later.file;
          spec = later.spec;
          is = later.is ∙ ap (λ (p : ℕ). who.File p later.file) (omega arith);
          there = later.there;
          high = later.high;
        }

process-number : Who → ℕ
process-number (who.File process file) = process
process-number (who.Terminal terminal) = terminal

processes-once : (name : List ℕ) (number : ℕ) (processes : List ProcessSpec)
    → AreOnce who_of (processes_from name number processes)
unfolding process-number
processes-once name number [] = once-none who_of
processes-once name number (process ∷ processes) =
    once-both who_of (files_from name number 0 (files_of process.what)) (processes_from name (number + 1) processes)
    (files-once name number 0 (files_of process.what)) (processes-once name (number + 1) processes)
    (λ m n x y a b same.
    let first = file-in name number 0 (files_of process.what) m x a in
    let later = process-in name (number + 1) processes n y b in
    let e : ◌≡◌ {A = ℕ} number (number + 1 + later.place) =
    ap process-number (sym first.is ∙ same ∙ later.is) in
    omega (arith, e))

-- one of these terminals, from a number on
record IsTerminalFrom (number count : ℕ) (one : Who) : Type 0 where
  terminal : ℕ
  is : one ≡ who.Terminal terminal
  low : number ≤ terminal
  high : terminal < number + count

terminal-in : (process number : ℕ) (terminals : List TerminalSpec) (n : ℕ) (one : OpenerSpec)
    → slice_get (terminals_from process number terminals) n ≡ Some one
    → IsTerminalFrom number (length terminals) (who_of one)
terminal-in process number [] n one there = absurd (cc there)
terminal-in process number (terminal ∷ terminals) n one there =
    by (λ place e. terminal-in process (number + 1) terminals place one e)
    (get-both (terminal_opener process number terminal) (terminals_from process (number + 1) terminals) n one there)
  where
    by : ((place : ℕ) → slice_get (terminals_from process (number + 1) terminals) place ≡ Some one
        → IsTerminalFrom (number + 1) (length terminals) (who_of one))
        → (slice_get (terminal_opener process number terminal) n ≡ Some one)
        ⊎ IsBehind (terminal_opener process number terminal) (terminals_from process (number + 1) terminals) n one
        → IsTerminalFrom number (length (terminal ∷ terminals)) (who_of one)
    by rest (inl e) = record {
      terminal = number;
      is = sym (ap who_of (few-is (nat_eq terminal.target process)
          (record { who = who.Terminal number; depth = 1 }) one n e));
      low = omega arith;
      high = omega arith;
    }
    by rest (inr e) =
        let later = rest e.place e.there in
        record {
          terminal = later.terminal;
          is = later.is;
          low = omega (arith, later.low);
          high = omega (arith, later.high);
        }

terminals-once : (process number : ℕ) (terminals : List TerminalSpec)
    → AreOnce who_of (terminals_from process number terminals)
unfolding file-number
terminals-once process number [] = once-none who_of
terminals-once process number (terminal ∷ terminals) =
    let one : OpenerSpec = record { who = who.Terminal number; depth = 1 } in
    once-both who_of (terminal_opener process number terminal) (terminals_from process (number + 1) terminals)
    (few-once (nat_eq terminal.target process) one) (terminals-once process (number + 1) terminals)
    (λ m n x y a b same.
    let later = terminal-in process (number + 1) terminals n y b in
    let e : ◌≡◌ {A = ℕ} number later.terminal =
    ap file-number (ap who_of (few-is (nat_eq terminal.target process) one x m a) ∙ same ∙ later.is) in
    omega (arith, e, later.low))

-- a file or a terminal that the site has
pub record HasFile (site : Site) (process file : ℕ) : Type 0 where
  pub spec : ProcessSpec
  pub there : slice_get site.processes process ≡ Some spec
  pub high : file < length (files_of spec.what)

abbrev pub IsWhoOf : Site → Who → Type 0
IsWhoOf site (who.File process file) = HasFile site process file
IsWhoOf site (who.Terminal terminal) = terminal < length site.terminals

file-of-site : (site : Site) (one : Who) → IsFileIn 0 site.processes one → IsWhoOf site one
file-of-site site one file =
    subst (IsWhoOf site) (sym (file.is ∙ ap (λ (p : ℕ). who.File p file.file) (omega arith)))
    (record { spec = file.spec; there = file.there; high = file.high })

terminal-of-site : (site : Site) (one : Who) → IsTerminalFrom 0 (length site.terminals) one → IsWhoOf site one
terminal-of-site site one terminal =
    subst (IsWhoOf site) (sym terminal.is) (omega (arith, terminal.high))

by-site : (site : Site) (process : ℕ) (o : Option ProcessSpec) (n : ℕ) (one : OpenerSpec)
    → slice_get (openers_by site process o) n ≡ Some one → IsWhoOf site (who_of one)
by-site site process None n one there = absurd (cc there)
by-site site process (Some spec) n one there =
    by (get-both (processes_from spec.name 0 site.processes) (terminals_from process 0 site.terminals) n one there)
  where
    by : (slice_get (processes_from spec.name 0 site.processes) n ≡ Some one)
        ⊎ IsBehind (processes_from spec.name 0 site.processes) (terminals_from process 0 site.terminals) n one
        → IsWhoOf site (who_of one)
    by (inl e) = file-of-site site (who_of one) (process-in spec.name 0 site.processes n one e)
    by (inr e) = terminal-of-site site (who_of one) (terminal-in process 0 site.terminals e.place one e.there)

pub opener-of-site : (site : Site) (process n : ℕ) (one : OpenerSpec)
    → slice_get (openers_of site process) n ≡ Some one → IsWhoOf site (who_of one)
opener-of-site site process n one there = by-site site process (slice_get site.processes process) n one there

is-file : Who → Bool
is-file (who.File process file) = true
is-file (who.Terminal terminal) = false

by-once : (site : Site) (process : ℕ) (o : Option ProcessSpec) → AreOnce who_of (openers_by site process o)
unfolding is-file
by-once site process None = once-none who_of
by-once site process (Some spec) =
    once-both who_of (processes_from spec.name 0 site.processes) (terminals_from process 0 site.terminals)
    (processes-once spec.name 0 site.processes) (terminals-once process 0 site.terminals)
    (λ m n x y a b same.
    let first = process-in spec.name 0 site.processes m x a in
    let later = terminal-in process 0 site.terminals n y b in
    let e : true ≡ false = ap is-file (sym first.is ∙ same ∙ later.is) in
    absurd (cc e))

pub openers-once : (site : Site) (process : ℕ) → AreOnce who_of (openers_of site process)
openers-once site process = by-once site process (slice_get site.processes process)
