-- Statements of a text without faults that have no statement inside, but for those of the prologue and CHECKPOINT.
use Rattle.std.proofs.Common.{◌≡◌, ◌≤◌, ℕ, ◌+◌, suc, Bool, true, false, not, ◌&&◌, ◌||◌, ◌==◌, nat_le, List, [], ◌∷◌}
use Rattle.std.proofs.Common.{length, refl, sym, ap, ◌∙◌, subst, arith}
use Rattle.std.specs.Prelude.{slice_get, Option, Some, None}
use Rattle.std.proofs.lemmas.Bool.{eqb-true, not-false, or_parts}
use Rattle.tal_tree.specs.declared.program.Program.{Program}
use Rattle.tal_tree.specs.declared.statement.What.TheVariants as what
use Rattle.tal_tokens.specs.declared.token.At.{At}
use Rattle.tal_syntax.specs.Grammar as g
use Rattle.tal_syntax.specs.Expected.{AllAtMost}
use Rattle.tal_syntax.specs.Nesting.{nest_expr, nest_spot, nest_values, nest_answer}
use Rattle.tal_names.specs.declared.fault.Rule.TheVariants.{WrongKind, NotBefore}
use Rattle.tal_names.specs.declared.meaning.Meaning.{Meaning}
use Rattle.tal_names.specs.declared.meaning.Meaning.TheVariants as m
use Rattle.tal_names.specs.declared.meaning.Need.TheVariants as need
use Rattle.tal_names.specs.declared.scope.Named.{Named}
use Rattle.tal_names.specs.declared.scope.Scope.{Scope}
use Rattle.tal_names.specs.declared.system.System.TheVariants as system
use Rattle.tal_rules.specs.Calls.{name_in, called_faults, values_count, procedure_call_faults, count_faults}
use Rattle.tal_rules.specs.Calls.{read_update_faults, reply_faults, write_read_faults}
use Rattle.tal_rules.specs.Expressions.{spot_faults}
use Rattle.tal_names.specs.Places.{name_of_argument}
use Rattle.tal_names.specs.Scopes.{meaning_of}
use Rattle.tal_rules.specs.Statements.{return_faults, right_by, right_named}
use Rattle.tal_meaning.specs.Calls.{procedure_by, values_of, values_of_arguments, meaning_by, system_what}
use Rattle.tal_meaning.specs.Expressions.{value_of_expr, target_of_spot}
use Rattle.tal_meaning.specs.Statements.{answer_of, assign_by}
use Rattle.tal_pieces.proofs.Scopes.Agreement.{Agreement, printed_scope}
use Rattle.tal_pieces.proofs.Standing.ArgumentsFit.{AreLow, low_values, values_named, fits_argument, fits_arguments}
use Rattle.tal_pieces.proofs.Standing.ArgumentsFit.{variable_at, array_at, receive_at, process_at}
use Rattle.tal_faultless.proofs.Common.ArgumentCounts.{arguments_count, values_length}
use Rattle.tal_pieces.proofs.Standing.Fitting.{fits_value, fits_target}
use Rattle.tal_pieces.proofs.Standing.LevelsAfter as levels
use Rattle.tal_faultless.proofs.Scopes.SourceNames.{SourceNames}
use Rattle.tal_pieces.proofs.Standing.Stands.{FitsSpot, IsCallable, Lone, assigns, assigns_call, calls, returns, gives}
use Rattle.tal_pieces.proofs.Standing.Stands.{reads, replies, asks}
use Rattle.tal_faultless.proofs.Common.Faultless.{no_fault, split, refuted}

module _ (p : Program) (locals : List (List ℕ)) (s : Scope) (agreed : Agreement p locals s)
    (names : SourceNames s) where
  -- a procedure that may be called, and whether it gives a value
  record Callable (wants : Bool) (number count : ℕ) : Type 0 where
    given : Bool
    wanted : wants ≡ true → given ≡ true
    callable : IsCallable p locals (printed_scope s) number given count

  gives_wanted : (wants given : Bool) → (wants && not given) ≡ false → wants ≡ true → given ≡ true
  gives_wanted true given e h = not-false given e
  gives_wanted false given e h = absurd (cc)

  callable_by : (wants : Bool) (at : At) (count : ℕ) (name : List ℕ) (found : Option Meaning)
      → meaning_of s name ≡ found → called_faults s wants at count found ≡ []
      → Callable wants (procedure_by found) count
  callable_by wants at count name None e faultless = no_fault faultless
  callable_by wants at count name (Some (m.Procedure number given parameters)) e faultless =
      let parts = split faultless in
      let fine = or_parts (not (count == parameters)) (wants && not given)
      (refuted (not (count == parameters) || (wants && not given)) at WrongKind parts.0) in
      record {
        given = given;
        wanted = gives_wanted wants given fine.1;
        callable = record {
          name = name;
          named = agreed.procedure number given parameters name e;
          means = agreed.lasting name (m.Procedure number given parameters) refl e
              ∙ ap (λ k. Some (m.Procedure number given k))
              (sym (eqb-true count parameters (not-false (count == parameters) fine.0)));
          free = names.procedure number given parameters name e;
          before = refuted (nat_le s.number number) at NotBefore parts.1;
        };
      }
  callable_by wants at count name (Some other) e faultless = no_fault faultless

  giving : {number count : ℕ} → Callable true number count → IsCallable p locals (printed_scope s) number true count
  giving {number} {count} c =
      subst (λ b. IsCallable p locals (printed_scope s) number b count) (c.wanted refl) c.callable

  -- assignments
  assign_meant : (n : ℕ) (target : g.Spot) (e : g.Expr) (ls : List ℕ) (at : At) (name : List ℕ)
      (found : Option Meaning) → meaning_of s name ≡ found
      → FitsSpot p locals (printed_scope s) (suc n) (target_of_spot s target) → suc n ≤ 33
      → AllAtMost 33 (nest_expr (suc n) e ls)
      → right_by s e at found ≡ [] → Lone p locals (printed_scope s) n (assign_by s target e found)
  assign_meant n target e ls at name (Some (m.Procedure number given parameters)) d to room low faultless =
      assigns_call to (giving (callable_by true at 0 name (Some (m.Procedure number given parameters)) d faultless))
      room
  assign_meant n target e ls at name other d to room low faultless =
      assigns to (fits_value p locals s agreed e (suc n) ls low)

  assign_named : (n : ℕ) (target : g.Spot) (e : g.Expr) (ls : List ℕ) (found : Option Named)
      → FitsSpot p locals (printed_scope s) (suc n) (target_of_spot s target) → suc n ≤ 33
      → AllAtMost 33 (nest_expr (suc n) e ls)
      → right_named s e found ≡ [] → Lone p locals (printed_scope s) n (assign_by s target e (meaning_by s found))
  assign_named n target e ls None to room low faultless = assigns to (fits_value p locals s agreed e (suc n) ls low)
  assign_named n target e ls (Some x) to room low faultless =
      assign_meant n target e ls x.at x.name (meaning_of s x.name) refl to room low faultless

  pub assign_stands : (n : ℕ) (target : g.Spot) (e : g.Expr) (ls : List ℕ) (found : Option Named)
      → spot_faults s need.Variable target ≡ []
      → AllAtMost 33 (nest_spot (suc n) target (suc n ∷ nest_expr (suc n) e ls)) → right_named s e found ≡ []
      → Lone p locals (printed_scope s) n (assign_by s target e (meaning_by s found))
  assign_stands n target e ls found fine low faultless =
      let rest = levels.after_spot s 33 target (suc n) (suc n ∷ nest_expr (suc n) e ls) low in
      assign_named n target e ls found (fits_target p locals s agreed target (suc n) (suc n ∷ nest_expr (suc n) e ls)
      fine low) rest.0 rest.1 faultless

  pub assign_call_stands : (n : ℕ) (target : g.Spot) (at : At) (name : List ℕ) (first : g.Expr) (more : g.Values)
      (ls : List ℕ)
      → spot_faults s need.Variable target ≡ []
      → called_faults s true at (values_count more + 1) (meaning_of s name) ≡ []
      → AllAtMost 33 (nest_spot (suc n) target
      (suc n ∷ suc n ∷ suc (suc n) ∷ nest_expr (suc (suc n)) first (nest_values (suc (suc n)) more (suc (suc n) ∷ ls))))
      → Lone p locals (printed_scope s) n (what.AssignCall (target_of_spot s target) (procedure_by (meaning_of s name))
      (value_of_expr s first ∷ values_of s more))
  assign_call_stands n target at name first more ls fine called low =
      let values = nest_values (suc (suc n)) more (suc (suc n) ∷ ls) in
      let after = suc n ∷ suc n ∷ suc (suc n) ∷ nest_expr (suc (suc n)) first values in
      let rest = levels.after_spot s 33 target (suc n) after low in
      let value = fits_value p locals s agreed first (suc (suc n)) values rest.1.1.1 in
      let further = low_values s more (suc (suc n)) (suc (suc n) ∷ ls) rest.1.1.0
      (levels.after_expr s 33 first (suc (suc n)) values rest.1.1.1) in
      let count : values_count more + 1 ≡ suc (length (values_of s more)) = omega (arith, values_length s more) in
      assigns_call (fits_target p locals s agreed target (suc n) after fine low)
      (subst (λ k. IsCallable p locals (printed_scope s) (procedure_by (meaning_of s name)) true k) count
      (giving (callable_by true at (values_count more + 1) name (meaning_of s name) refl called)))
      ((value.named, values_named p locals s agreed more), omega (arith, value.low, further))

  -- RETURN
  pub return_stands : (n : ℕ) (head : At) (a : g.Answer) (ls : List ℕ) → return_faults s head a ≡ [] → suc n ≤ 33
      → AllAtMost 33 (nest_answer (suc n) a ls)
      → Lone p locals (printed_scope s) n (what.Return (answer_of s a))
  return_stands n head g.no_answer ls faultless room low = returns (refuted s.gives head WrongKind faultless) room
  return_stands n head (g.answer e) ls faultless room low =
      gives (not-false s.gives (refuted (not s.gives) head WrongKind (split faultless).0))
      (fits_value p locals s agreed e (suc n) ls low)

  -- CALL of a procedure
  pub call_stands : (n : ℕ) (at : At) (name : List ℕ) (arguments : List g.Argument)
      → procedure_call_faults s at name arguments ≡ [] → suc n ≤ 33
      → AreLow s (suc (suc n)) arguments → Lone p locals (printed_scope s) n
      (what.Call (procedure_by (meaning_of s name)) (values_of_arguments s arguments))
  call_stands n at name arguments faultless room low =
      let c = callable_by false at (length arguments) name (meaning_of s name) refl (split faultless).0 in
      calls c.given
      (subst (λ k. IsCallable p locals (printed_scope s) (procedure_by (meaning_of s name)) c.given k)
      (sym (arguments_count s arguments)) c.callable)
      (fits_arguments p locals s agreed arguments (suc n) room low)

  -- the system's calls
  pub counted : (at : At) (count : ℕ) (arguments : List g.Argument) → count_faults at count arguments ≡ []
      → length arguments ≡ count
  counted at count arguments faultless =
      eqb-true (length arguments) count (not-false (length arguments == count)
      (refuted (not (length arguments == count)) at WrongKind faultless))

  read_update_by : (n : ℕ) (arguments : List g.Argument) → length arguments ≡ 4
      → name_in s need.Receive (slice_get arguments 0) ≡ []
      → name_in s need.Array (slice_get arguments 1) ≡ [] → name_in s need.Variable (slice_get arguments 3) ≡ []
      → AreLow s (suc (suc n)) arguments → Lone p locals (printed_scope s) n (system_what s arguments system.ReadUpdate)
  read_update_by n (file ∷ buffer ∷ most ∷ got ∷ []) count a b c low =
      let receive = receive_at p locals s agreed file (name_of_argument file) a in
      reads receive.item receive.number receive.stands (array_at p locals s agreed buffer (name_of_argument buffer) b)
      (fits_argument p locals s agreed most (suc (suc n)) low.1.1.0)
      (variable_at p locals s agreed got (name_of_argument got) c)
  read_update_by n other count a b c low = absurd (omega (arith, count))

  pub read_update_stands : (n : ℕ) (at : At) (arguments : List g.Argument) → read_update_faults s at arguments ≡ []
      → AreLow s (suc (suc n)) arguments → Lone p locals (printed_scope s) n (system_what s arguments system.ReadUpdate)
  read_update_stands n at arguments faultless low =
      let got = split faultless in
      let most = split got.0 in
      let buffer = split most.0 in
      let file = split buffer.0 in
      read_update_by n arguments (counted at 4 arguments file.0) file.1 buffer.1 got.1 low

  reply_by : (n : ℕ) (arguments : List g.Argument) → length arguments ≡ 2
      → name_in s need.Array (slice_get arguments 0) ≡ []
      → AreLow s (suc (suc n)) arguments → Lone p locals (printed_scope s) n (system_what s arguments system.Reply)
  reply_by n (buffer ∷ amount ∷ []) count a low =
      replies (array_at p locals s agreed buffer (name_of_argument buffer) a)
      (fits_argument p locals s agreed amount (suc (suc n)) low.1.0)
  reply_by n other count a low = absurd (omega (arith, count))

  pub reply_stands : (n : ℕ) (at : At) (arguments : List g.Argument) → reply_faults s at arguments ≡ []
      → AreLow s (suc (suc n)) arguments → Lone p locals (printed_scope s) n (system_what s arguments system.Reply)
  reply_stands n at arguments faultless low =
      let amount = split faultless in
      let buffer = split amount.0 in
      reply_by n arguments (counted at 2 arguments buffer.0) buffer.1 low

  write_read_by : (n : ℕ) (arguments : List g.Argument) → length arguments ≡ 5
      → name_in s need.Process (slice_get arguments 0) ≡ []
      → name_in s need.Array (slice_get arguments 1) ≡ [] → name_in s need.Variable (slice_get arguments 4) ≡ []
      → AreLow s (suc (suc n)) arguments → Lone p locals (printed_scope s) n (system_what s arguments system.WriteRead)
  write_read_by n (file ∷ buffer ∷ send ∷ room ∷ got ∷ []) count a b c low =
      let process = process_at p locals s agreed file (name_of_argument file) a in
      asks process.item process.stands (array_at p locals s agreed buffer (name_of_argument buffer) b)
      (fits_argument p locals s agreed send (suc (suc n)) low.1.1.0)
      (fits_argument p locals s agreed room (suc (suc n)) low.1.1.1.0)
      (variable_at p locals s agreed got (name_of_argument got) c)
  write_read_by n other count a b c low = absurd (omega (arith, count))

  pub write_read_stands : (n : ℕ) (at : At) (arguments : List g.Argument) → write_read_faults s at arguments ≡ []
      → AreLow s (suc (suc n)) arguments → Lone p locals (printed_scope s) n (system_what s arguments system.WriteRead)
  write_read_stands n at arguments faultless low =
      let got = split faultless in
      let room = split got.0 in
      let send = split room.0 in
      let buffer = split send.0 in
      let file = split buffer.0 in
      write_read_by n arguments (counted at 5 arguments file.0) file.1 buffer.1 got.1 low
