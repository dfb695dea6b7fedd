-- Printed CHECKMONITOR and OPEN read back as themselves.
use Rattle.std.proofs.Common.{◌≡◌, ◌≤◌, ℕ, suc, List, [], ◌∷◌, refl, sym, ap, ◌∙◌, arith, subst}
use Rattle.std.proofs.lemmas.Bool.{lt-leb}
use Rattle.std.specs.Prelude.{◌||◌, ◌&&◌, not, pos, take, slice_get, Some, None, unwrap_or, if◌then◌else◌}
use Rattle.tal_tree.specs.declared.program.Program.{Program}
use Rattle.tal_tree.specs.declared.program.Target.{Target}
use Rattle.tal_tree.specs.declared.program.Target.TheVariants as target
use Rattle.tal_tree.specs.declared.statement.What.TheVariants as what
use Rattle.tal_tokens.specs.declared.token.At.{At}
use Rattle.tal_tokens.specs.declared.token.Token.{Token}
use Rattle.tal_syntax.specs.Grammar as g
use Rattle.tal_syntax.specs.Expected.{AllAtMost}
use Rattle.tal_syntax.specs.Nesting.{nest_argument}
use Rattle.tal_names.specs.declared.fault.Rule.TheVariants.{Twice, Prologue, Limit}
use Rattle.tal_names.specs.declared.meaning.Need.TheVariants as need
use Rattle.tal_declarations.specs.declared.table.Files.{Files}
use Rattle.tal_names.specs.declared.scope.Scope.{Scope}
use Rattle.tal_rules.specs.declared.walk.Stage.TheVariants as stage
use Rattle.tal_rules.specs.declared.walk.Walk.{Walk}
use Rattle.tal_names.specs.declared.system.System.TheVariants as system
use Rattle.tal_rules.specs.Calls.{is_depth, is_start, takes_open, string_faults, file_number, number_below}
use Rattle.tal_names.specs.Faults.{fault_at, if_so}
use Rattle.tal_declarations.specs.Files as files
use Rattle.tal_names.specs.Names.{is_declared, meaning_in}
use Rattle.tal_names.specs.Scopes.{meaning_of, kind_faults}
use Rattle.tal_rules.specs.Statements.{next_number, next_file, stage_after_monitor, stage_after_open}
use Rattle.tal_meaning.specs.Calls.{file_by}
use Rattle.tal_pieces.specs.declared.piece.Piece.{Piece}
use Rattle.tal_pieces.specs.declared.piece.Piece.TheVariants as piece
use Rattle.tal_pieces.specs.Cuts.{AreTokens}
use Rattle.tal_pieces.specs.Printed.Names.{named, item_name, target_piece}
use Rattle.tal_tree.specs.Targets.{is_receive}
use Rattle.tal_pieces.specs.Printed.Statements.{comma, close, open_pieces, what_pieces}
use Rattle.tal_pieces.proofs.Values.Back.{first}
use Rattle.tal_pieces.proofs.Bodies.Fronts.{behind}
use Rattle.tal_faultless.proofs.Files.OpenDepths.{depth_is}
use Rattle.tal_pieces.proofs.Bodies.OpenedFiles.{with_next}
use Rattle.tal_pieces.proofs.Bodies.PartsBack.{lone_name, only}
use Rattle.tal_pieces.proofs.Standing.Stands.{IsCounted, Opens, first_files}
use Rattle.tal_faultless.proofs.Files.FileMeanings.{file_meaning}
use Rattle.tal_faultless.proofs.Scopes.SourceScopes.{without_files}
use Rattle.tal_pieces.proofs.Bodies.StatementsBack.{StatementBack}
use Rattle.tal_pieces.proofs.Bodies.SystemCallBack.{called_back, system_back}
use Rattle.tal_faultless.proofs.Common.Faultless.{nils}
use Rattle.tal_faultless.proofs.Common.Limits.{next_is}
use Rattle.tal_tree.specs.declared.limit.ProgramLimit.TheVariants as program_limit

-- the string of an OPEN
record StringBack (s : Scope) (t : Target) (ks : List Piece) (tokens : List Token) : Type 0 where
  syntax : g.Argument
  rest : List Token
  front : tokens ≡ g.of_argument syntax rest
  later : AreTokens ks rest
  receives : files.is_receive syntax ≡ is_receive t
  fine : string_faults s (Some syntax) ≡ []
  is : files.target_of syntax ≡ t
  by : (item number : ℕ) → files.file_by syntax item number ≡ file_meaning t item number
  shallow : (n : ℕ) (ls : List ℕ) → n ≤ 33 → AllAtMost 33 ls → AllAtMost 33 (nest_argument n syntax ls)

string_back : (s : Scope) (t : Target) (ks : List Piece) (tokens : List Token) → AreTokens (target_piece t ∷ ks) tokens
    → StringBack s t ks tokens
string_back s target.Receive ks tokens a =
    let h = first a in
    record {
      syntax = g.receive h.at;
      rest = h.rest;
      front = h.is;
      later = h.later;
      receives = refl;
      fine = refl;
      is = refl;
      by = λ item number. refl;
      shallow = λ n ls room held. (room, held);
    }
string_back s (target.Process name) ks tokens a =
    let h = first a in
    record {
      syntax = g.process h.at name;
      rest = h.rest;
      front = h.is;
      later = h.later;
      receives = refl;
      fine = refl;
      is = refl;
      by = λ item number. refl;
      shallow = λ n ls room held. (room, held);
    }

-- what the variable of a file is declared as has the file's number, and is the variable of one
number_of : (t : Target) (item number : ℕ) → file_number (Some (file_meaning t item number)) ≡ Some number
number_of target.Receive item number = refl
number_of (target.Process name) item number = refl

file_fine : (t : Target) (item number : ℕ) (at : At)
    → kind_faults need.FileVariable at (Some (file_meaning t item number)) ≡ []
file_fine target.Receive item number at = refl
file_fine (target.Process name) item number at = refl

-- a number as an expression
abbrev lone_number : At → ℕ → g.Expr
lone_number at n = only (g.sum (g.product (g.number at (pos n)) g.no_factors) g.no_terms)

module _ (p : Program) (locals : List (List ℕ)) (s : Scope) (f : Files) where
  pub monitor_back : (n : ℕ) (w : Walk) (line : ℕ) (ks : List Piece) (tokens : List Token) → IsCounted w → suc n ≤ 33
      → w.stage ≡ stage.Start
      → AreTokens (what_pieces p locals what.CheckMonitor ks) tokens
      → StatementBack s f n w (record { number = w.number; line = line; what = what.CheckMonitor } ∷ [])
      (record w { number = next_number w.number; stage = stage.Opens }) ks tokens
  monitor_back n w line ks tokens counted room start a =
      let c = called_back system.CheckMonitor ks tokens a in
      system_back s f n w (record w { number = next_number w.number; stage = stage.Opens }) line system.CheckMonitor
      what.CheckMonitor ks ks tokens counted room c (record {
        syntax = g.unlisted;
        rest = c.rest;
        front = refl;
        later = c.later;
        same = refl;
        next = λ i. record w { number = next_number w.number; stage = stage_after_monitor (start i) };
        faultless = λ at. ap (λ x. if_so (not (is_start x)) (fault_at at Prologue)) start;
        shallow = λ ls held. held;
        opened = refl;
      })

  pub open_back : (n : ℕ) (w : Walk) (line file : ℕ) (ks : List Piece) (tokens : List Token) → IsCounted w
      → suc (suc n) ≤ 33 → (o : Opens p locals s f w file)
      → AreTokens (what_pieces p locals (what.Open file) ks) tokens
      → StatementBack s f n w (record { number = w.number; line = line; what = what.Open file } ∷ [])
      (record {
        number = next_number w.number;
        stage = stage.Opens;
        files = next_file w.files;
        receive = w.receive || is_receive o.opened.target;
      }) ks tokens
  open_back n w line file ks tokens counted deep o a =
      let last = comma (piece.Number (pos o.opened.depth) ∷ close ks) in
      let c = called_back system.Open _ tokens (subst (λ found. AreTokens (open_pieces p found ks) tokens) o.there a) in
      let h = first c.later in
      let b = string_back s o.opened.target (comma (named (item_name p o.opened.item) last)) h.rest h.later in
      let d = first b.later in
      let x = first (subst (λ found. AreTokens (named found last) d.rest) o.named d.later) in
      let e = first x.later in
      let q = first e.later in
      let z = first q.later in
      system_back s f n w _ line system.Open (what.Open file) ks _ tokens counted (omega (arith, deep)) c (record {
        syntax = g.listed h.at b.syntax (g.more_further d.at (g.value (lone_name x.at o.name))
            (g.more_further e.at (g.value (lone_number q.at o.opened.depth)) g.no_further)) z.at;
        rest = z.rest;
        front = behind h.is (b.front ∙ ap (g.of_argument b.syntax)
            (behind d.is (behind x.is (behind e.is (behind q.is z.is)))));
        later = z.later;
        same = ap (λ found. what.Open (file_by found)) o.means
            ∙ ap (λ k. what.Open (unwrap_or k 0)) (number_of o.opened.target o.opened.item file);
        next = λ i. record {
          number = next_number w.number;
          stage = stage_after_open (o.ready i);
          files = next_file w.files;
          receive = w.receive || b.receives i;
        };
        faultless = λ at. nils (nils (nils (nils (nils (nils
            (ap (λ r. if_so (w.receive && r) (fault_at at Twice)) b.receives
            ∙ ap (λ r. if_so r (fault_at at Twice)) o.alone)
            refl)
            (stands_next at o))
            b.fine)
            (ap (kind_faults need.FileVariable x.at) o.means ∙ file_fine o.opened.target o.opened.item file x.at))
            (ap (λ r. if_so r (fault_at x.at (Limit program_limit.Files))) o.few))
            (ap (λ r. if_so (not (is_depth r (pos o.opened.depth))) (fault_at q.at (Limit program_limit.KeptReplies)))
            b.receives
            ∙ ap (λ r. if_so (not r) (fault_at q.at (Limit program_limit.KeptReplies))) o.depth);
        shallow = λ ls held. (
          deep,
          b.shallow (suc (suc n))
              (suc (suc n) ∷ suc (suc n) ∷ suc (suc n) ∷ suc (suc n) ∷ suc (suc n) ∷ ls) deep
              (deep, (deep, (deep, (deep, (deep, held))))),
        );
        opened = is_opened b.syntax q.at b.is b.by;
      })
    where
      stands_next : (at : At) (u : Opens p locals s f w file)
          → if_so (not (takes_open w.stage) || number_below (file_number (meaning_of s u.name)) w.files)
          (fault_at at Prologue) ≡ []
      stands_next at u =
          ap (λ x. if_so (not (takes_open x) || number_below (file_number (meaning_of s u.name)) w.files)
          (fault_at at Prologue)) u.ready
          ∙ ap (λ found. if_so (number_below (file_number found) w.files) (fault_at at Prologue)) u.means
          ∙ ap (λ k. if_so (number_below k w.files) (fault_at at Prologue))
          (number_of u.opened.target u.opened.item file)
          ∙ ap (λ r. if_so r (fault_at at Prologue)) (lt-leb (suc file) w.files (omega (arith, u.next)))

      -- the files with this one
      is_opened : (string : g.Argument) (at : At) → files.target_of string ≡ o.opened.target
          → ((item number : ℕ) → files.file_by string item number ≡ file_meaning o.opened.target item number)
          → files.opened_as (without_files s) (first_files f w.files) string (g.value (lone_number at o.opened.depth))
          o.name (files.simple_global (without_files s) o.name)
          ≡ first_files f (next_file w.files)
      is_opened string at is by =
          ap (λ x. files.opened_as (without_files s) (first_files f w.files) string
          (g.value (lone_number at o.opened.depth)) o.name
          (if x then None else files.simple_by (meaning_in o.name s.globals))) o.unhidden
          ∙ ap (λ x. files.opened_as (without_files s) (first_files f w.files) string
          (g.value (lone_number at o.opened.depth)) o.name (files.simple_by x)) o.global
          ∙ ap (files.with_file (first_files f w.files) o.name o.opened.item string)
          (depth_is (is_receive o.opened.target) o.opened.depth o.depth)
          ∙ with_next f w.files o.opened.item o.opened.depth o.name string
          (file_meaning o.opened.target o.opened.item file) o.opened
          (ap (λ k. is_declared o.name (take k f.names)) (sym o.next) ∙ o.first)
          (ap (slice_get f.names) (sym o.next) ∙ o.listed)
          (ap (slice_get f.uses) (sym o.next) ∙ o.used)
          o.few
          (by o.opened.item w.files ∙ ap (file_meaning o.opened.target o.opened.item) (sym o.next))
          (λ i. record { item = o.opened.item; target = is i; depth = o.opened.depth })
          ∙ ap (first_files f) (sym (next_is w.files o.few))
