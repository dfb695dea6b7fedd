-- The variables of files in a text whose statements have no fault: their numbers, and what each is opened to.
use Rattle.std.proofs.Common.{◌≡◌, ℕ, ◌+◌, ◌≤◌, min, ◌==◌, nat_le, not, ◌||◌, ◌&&◌, Bool, true, false, List, [], ◌∷◌}
use Rattle.std.proofs.Common.{◌++◌, length, slice_get, Option, Some, None, ◌⊎◌, inl, inr, refl, sym, ap, ◌∙◌, subst}
use Rattle.std.proofs.Common.{arith, length-append, eqb-true}
use Rattle.tal_tokens.specs.declared.token.At.{At}
use Rattle.tal_tree.specs.declared.program.FileUse.{FileUse}
use Rattle.tal_tree.specs.declared.program.Target.{Target}
use Rattle.tal_tree.specs.declared.program.Target.TheVariants as target
use Rattle.tal_syntax.specs.Grammar as g
use Rattle.tal_names.specs.declared.fault.Rule.TheVariants.{Twice, WrongKind, Prologue, Limit}
use Rattle.tal_names.specs.declared.fault.RuleFault.{RuleFault}
use Rattle.tal_names.specs.declared.meaning.Meaning.{Meaning}
use Rattle.tal_names.specs.declared.meaning.Meaning.TheVariants as m
use Rattle.tal_names.specs.declared.meaning.Need.TheVariants as need
use Rattle.tal_declarations.specs.declared.table.Files.{Files}
use Rattle.tal_names.specs.declared.scope.Named.{Named}
use Rattle.tal_names.specs.declared.scope.Scope.{Scope}
use Rattle.tal_meaning.specs.tal_rules.specs.declared.walk.Walk.{Walk}
use Rattle.tal_meaning.specs.tal_rules.specs.Calls.{count_faults, string_faults, opens_receive, is_opened, file_limit}
use Rattle.tal_meaning.specs.tal_rules.specs.Calls.{depth_faults}
use Rattle.tal_meaning.specs.tal_rules.specs.Calls.{takes_open, open_faults, name_in, undeclared_faults}
use Rattle.tal_names.specs.Faults.{fault_at, if_so}
use Rattle.tal_declarations.specs.Files.{is_receive, file_by, target_of, with_file, simple_global, depth_of}
use Rattle.tal_declarations.specs.Files.{depth_value, opened_as, opened_named, opened}
use Rattle.tal_names.specs.Names.{Declarations, meaning_in, is_declared}
use Rattle.tal_names.specs.Places.{name_of_argument, front_name_of_argument, first_of_argument}
use Rattle.tal_meaning.specs.tal_rules.specs.Statements.{next_file}
use Rattle.tal_tree.specs.Targets as targets
use Rattle.tal_faultless.proofs.Files.FileGlobals.{global_is}
use Rattle.tal_faultless.proofs.Files.FileMeanings.{file_meaning}
use Rattle.tal_faultless.proofs.Scopes.SourceScopes.{without_files}
use Rattle.std.proofs.lemmas.Bool.{not-false, leb-false, or_parts}
use Rattle.tal_faultless.proofs.Common.Limits.{next_is, min_is}
use Rattle.tal_faultless.proofs.Common.Faultless.{first_nil, second_nil, refuted}
use Rattle.tal_faultless.proofs.Common.Entries.{get_front, get_last, get_either}
use Rattle.tal_tree.specs.declared.limit.ProgramLimit.TheVariants as program_limit

-- the variable of a file, which is a simple global, with the file's number
pub record IsOpened (globals : Declarations) (uses : List FileUse) (i : ℕ) (d : List ℕ × Meaning) : Type 0 where
  pub use_of : FileUse
  pub there : slice_get uses i ≡ Some use_of
  pub is : d.1 ≡ file_meaning use_of.target use_of.item i
  pub global : meaning_in d.0 globals ≡ Some (m.Simple use_of.item)

-- the files so far are at most as many as the OPENs so far, and at most one is opened to `$RECEIVE`
pub record AreOpened (globals : Declarations) (f : Files) (count : ℕ) (receive : Bool) : Type 0 where
  pub each : (i : ℕ) (d : List ℕ × Meaning) → slice_get f.names i ≡ Some d → IsOpened globals f.uses i d
  pub paired : length f.names ≡ length f.uses
  pub counted : length f.uses ≤ count
  pub few : count ≤ 8
  pub none : receive ≡ false → (i : ℕ) (u : FileUse) → slice_get f.uses i ≡ Some u → targets.receives u ≡ false
  pub one : (i j : ℕ) (u v : FileUse) → slice_get f.uses i ≡ Some u → slice_get f.uses j ≡ Some v
      → targets.receives u ≡ true → targets.receives v ≡ true → i ≡ j

and_true : (a b : Bool) → (a && b) ≡ false → b ≡ true → a ≡ false
and_true true b e d = absurd (cc (e, d))
and_true false b e d = refl

module _ (globals : Declarations) where
  -- an OPEN that adds no file
  moved : (f : Files) (k : ℕ) (r b : Bool) → nat_le 8 k ≡ false → AreOpened globals f k r
      → AreOpened globals f (next_file k) (r || b)
  moved f k r b low a = record {
    each = a.each;
    paired = a.paired;
    counted = omega (arith, a.counted, next_is k low);
    few = omega (arith, next_is k low, leb-false 8 k low);
    none = λ e. a.none (or_parts r b e).0;
    one = a.one;
  }

  -- an OPEN that adds one
  added : (f : Files) (k : ℕ) (r : Bool) (name : List ℕ) (item depth : ℕ) (to : Target) → nat_le 8 k ≡ false
      → (r && targets.is_receive to) ≡ false
      → meaning_in name globals ≡ Some (m.Simple item) → AreOpened globals f k r
      → AreOpened globals (record {
        names = f.names ++ (name, file_meaning to item (min 8 (length f.uses))) ∷ [];
        uses = f.uses ++ record { item = item; target = to; depth = depth } ∷ [];
      })
      (next_file k) (r || targets.is_receive to)
  added f k r name item depth to low once global a = record {
    each = λ i d e. by_each i d (get_either f.names variable d i e);
    paired = length-append f.names (variable ∷ []) ∙ ap (λ n. n + 1) a.paired ∙ sym (length-append f.uses (new ∷ []));
    counted = omega (arith, a.counted, next_is k low, length-append f.uses (new ∷ []));
    few = omega (arith, next_is k low, leb-false 8 k low);
    none = λ e i u there. by_none e i u (get_either f.uses new u i there);
    one = λ i j u v at_i at_j opens also. by_one i j u v opens also (get_either f.uses new u i at_i)
        (get_either f.uses new v j at_j);
  }
    where
      new : FileUse
      new = record { item = item; target = to; depth = depth }

      variable : List ℕ × Meaning
      variable = (name, file_meaning to item (min 8 (length f.uses)))

      last : IsOpened globals (f.uses ++ new ∷ []) (length f.uses) variable
      last = record {
        use_of = new;
        there = get_last f.uses new;
        is = ap (file_meaning to item) (min_is 8 (length f.uses) (omega (arith, a.counted, a.few)));
        global = global;
      }

      by_each : (i : ℕ) (d : List ℕ × Meaning)
          → (slice_get f.names i ≡ Some d) ⊎ ((i ≡ length f.names) × (variable ≡ d))
          → IsOpened globals (f.uses ++ new ∷ []) i d
      by_each i d (inl e) =
          let old : IsOpened globals f.uses i d = a.each i d e in
          record {
            use_of = old.use_of;
            there = get_front f.uses (new ∷ []) i old.use_of old.there;
            is = old.is;
            global = old.global;
          }
      by_each i d (inr e) =
          subst (λ c. IsOpened globals (f.uses ++ new ∷ []) i c) e.1
          (subst (λ n. IsOpened globals (f.uses ++ new ∷ []) n variable) (sym (e.0 ∙ a.paired)) last)

      by_none : (r || targets.is_receive to) ≡ false → (i : ℕ) (u : FileUse)
          → (slice_get f.uses i ≡ Some u) ⊎ ((i ≡ length f.uses) × (new ≡ u)) → targets.receives u ≡ false
      by_none e i u (inl there) = a.none (or_parts r (targets.is_receive to) e).0 i u there
      by_none e i u (inr there) =
          subst (λ x. targets.receives x ≡ false) there.1 (or_parts r (targets.is_receive to) e).1

      both : (i : ℕ) (u v : FileUse) → slice_get f.uses i ≡ Some u → new ≡ v → targets.receives u ≡ true
          → targets.receives v ≡ true → ⊥
      both i u v there is opens also =
          let no : targets.receives u ≡ false = a.none
          (and_true r (targets.is_receive to) once (subst (λ x. targets.receives x ≡ true) (sym is) also)) i u
          there in
          cc (opens, no)

      by_one : (i j : ℕ) (u v : FileUse) → targets.receives u ≡ true → targets.receives v ≡ true
          → (slice_get f.uses i ≡ Some u) ⊎ ((i ≡ length f.uses) × (new ≡ u))
          → (slice_get f.uses j ≡ Some v) ⊎ ((j ≡ length f.uses) × (new ≡ v)) → i ≡ j
      by_one i j u v opens also (inl x) (inl y) = a.one i j u v x y opens also
      by_one i j u v opens also (inl x) (inr y) = absurd (both i u v x y.1 opens also)
      by_one i j u v opens also (inr x) (inl y) = absurd (both j v u y x.1 also opens)
      by_one i j u v opens also (inr x) (inr y) = x.0 ∙ sym y.0

module _ (s : Scope) where
  abbrev globals : Declarations
  globals = s.globals

  abbrev with_use : Files → List ℕ → ℕ → g.Argument → ℕ → Files
  with_use f name item string depth = record {
    names = f.names ++ (name, file_by string item (min 8 (length f.uses))) ∷ [];
    uses = f.uses ++ record { item = item; target = target_of string; depth = depth } ∷ [];
  }

  by_string : (f : Files) (k : ℕ) (r : Bool) (name : List ℕ) (item depth : ℕ) (string : g.Argument)
      → nat_le 8 k ≡ false → (r && is_receive string) ≡ false
      → string_faults s (Some string) ≡ [] → meaning_in name globals ≡ Some (m.Simple item) → AreOpened globals f k r
      → AreOpened globals (with_use f name item string depth) (next_file k) (r || is_receive string)
  by_string f k r name item depth (g.receive at) low once fine global a =
      added globals f k r name item depth target.Receive low once global a
  by_string f k r name item depth (g.process at process) low once fine global a =
      added globals f k r name item depth (target.Process process) low once global a
  by_string f k r name item depth (g.quoted at) low once fine global a = absurd (cc fine)
  by_string f k r name item depth (g.value e) low once fine global a =
      let last : fault_at (first_of_argument (g.value e)) WrongKind ≡ [] =
      second_nil (undeclared_faults s (front_name_of_argument (g.value e)))
      (fault_at (first_of_argument (g.value e)) WrongKind) fine in
      absurd (cc last)

  file_opened : (f : Files) (k : ℕ) (r : Bool) (name : List ℕ) (item depth : ℕ) (string : g.Argument)
      → nat_le 8 k ≡ false → (r && is_receive string) ≡ false
      → string_faults s (Some string) ≡ [] → meaning_in name globals ≡ Some (m.Simple item) → AreOpened globals f k r
      → AreOpened globals (with_file f name item string depth) (next_file k) (r || is_receive string)
  file_opened f k r name item depth string low once fine global a = by (is_declared name f.names) refl
    where
      by : (b : Bool) → is_declared name f.names ≡ b
          → AreOpened globals (with_file f name item string depth) (next_file k) (r || is_receive string)
      by true e = rw e (moved globals f k r (is_receive string) low a)
      by false e = rw e (by_string f k r name item depth string low once fine global a)

  abbrev filing : Scope
  filing = without_files s

  as_opened : (f : Files) (k : ℕ) (r : Bool) (string depth : g.Argument) (name : List ℕ) (o : Option ℕ)
      → simple_global filing name ≡ o → nat_le 8 k ≡ false
      → (r && is_receive string) ≡ false → string_faults s (Some string) ≡ [] → AreOpened globals f k r
      → AreOpened globals (opened_as filing f string depth name o) (next_file k) (r || is_receive string)
  as_opened f k r string depth name None e low once fine a = moved globals f k r (is_receive string) low a
  as_opened f k r string depth name (Some item) e low once fine a =
      file_opened f k r name item (depth_of (depth_value filing depth)) string low once fine
      (global_is filing name item e) a

  named_opened : (f : Files) (k : ℕ) (r : Bool) (string depth : g.Argument) (o : Option Named) → nat_le 8 k ≡ false
      → (r && is_receive string) ≡ false → string_faults s (Some string) ≡ [] → AreOpened globals f k r
      → AreOpened globals (opened_named filing f string depth o) (next_file k) (r || is_receive string)
  named_opened f k r string depth None low once fine a = moved globals f k r (is_receive string) low a
  named_opened f k r string depth (Some n) low once fine a =
      as_opened f k r string depth n.name (simple_global filing n.name) refl low once fine a

  by_arguments : (f : Files) (k : ℕ) (r : Bool) (arguments : List g.Argument) → length arguments ≡ 3
      → (r && opens_receive (slice_get arguments 0)) ≡ false
      → string_faults s (slice_get arguments 0) ≡ [] → file_limit k (slice_get arguments 1) ≡ []
      → AreOpened globals f k r
      → AreOpened globals (opened filing f arguments) (next_file k) (r || opens_receive (slice_get arguments 0))
  by_arguments f k r [] three once fine few a = absurd (omega (arith, three))
  by_arguments f k r (x ∷ []) three once fine few a = absurd (omega (arith, three))
  by_arguments f k r (x ∷ y ∷ []) three once fine few a = absurd (omega (arith, three))
  by_arguments f k r (string ∷ variable ∷ depth ∷ []) three once fine few a =
      named_opened f k r string depth (name_of_argument variable)
      (refuted (nat_le 8 k) (first_of_argument variable) (Limit program_limit.Files) few) once fine a
  by_arguments f k r (x ∷ y ∷ z ∷ u ∷ rest) three once fine few a = absurd (omega (arith, three))

  -- the files after an OPEN without faults
  pub open_opened : (f : Files) (w : Walk) (at : At) (arguments : List g.Argument) → open_faults s w at arguments ≡ []
      → AreOpened globals f w.files w.receive
      → AreOpened globals (opened filing f arguments) (next_file w.files)
      (w.receive || opens_receive (slice_get arguments 0))
  open_opened f w at arguments e a =
      by_arguments f w.files w.receive arguments
      (eqb-true (length arguments) 3 (not-false (length arguments == 3)
      (refuted (not (length arguments == 3)) at WrongKind (second_nil once many two))))
      (refuted (w.receive && opens_receive (slice_get arguments 0)) at Twice (first_nil once many two))
      (second_nil (once ++ many ++ late) strings four)
      (second_nil (once ++ many ++ late ++ strings ++ names) few six)
      a
    where
      once : List RuleFault
      once = if_so (w.receive && opens_receive (slice_get arguments 0)) (fault_at at Twice)

      many : List RuleFault
      many = count_faults at 3 arguments

      late : List RuleFault
      late = if_so (not (takes_open w.stage) || is_opened s w.files (slice_get arguments 1)) (fault_at at Prologue)

      strings : List RuleFault
      strings = string_faults s (slice_get arguments 0)

      names : List RuleFault
      names = name_in s need.FileVariable (slice_get arguments 1)

      few : List RuleFault
      few = file_limit w.files (slice_get arguments 1)

      depths : List RuleFault
      depths = depth_faults s (opens_receive (slice_get arguments 0)) (slice_get arguments 2)

      six : once ++ many ++ late ++ strings ++ names ++ few ≡ []
      six = first_nil (once ++ many ++ late ++ strings ++ names ++ few) depths e

      four : once ++ many ++ late ++ strings ≡ []
      four = first_nil (once ++ many ++ late ++ strings) names
          (first_nil (once ++ many ++ late ++ strings ++ names) few six)

      two : once ++ many ≡ []
      two = first_nil (once ++ many) late (first_nil (once ++ many ++ late) strings four)
