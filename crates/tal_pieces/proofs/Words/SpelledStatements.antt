-- What the statements of a text stand for can be spelled.
use Rattle.std.proofs.Common.{ℕ, zero, suc, ℤ, pos, List, [], ◌∷◌, arith}
use Rattle.std.specs.Int.{w16}
use Rattle.std.specs.Prelude.{nat_le, slice_get, unwrap_or, Option, Some, None, FitsSigned}
use Rattle.tal_tree.specs.declared.program.Program.{Program}
use Rattle.tal_tree.specs.declared.statement.Statement.{Statement}
use Rattle.tal_tree.specs.declared.statement.What.TheVariants as what
use Rattle.tal_tokens.specs.declared.token.Token.{Token}
use Rattle.tal_tokens.specs.declared.token.Token.TheVariants as tok
use Rattle.tal_syntax.specs.Grammar as g
use Rattle.tal_names.specs.declared.meaning.Meaning.{Meaning}
use Rattle.tal_names.specs.declared.meaning.Meaning.TheVariants as m
use Rattle.tal_names.specs.declared.scope.Scope.{Scope}
use Rattle.tal_rules.specs.declared.walk.Walk.{Walk}
use Rattle.tal_names.specs.declared.system.System.{System}
use Rattle.tal_names.specs.declared.system.System.TheVariants as system
use Rattle.tal_names.specs.Systems.{system_of}
use Rattle.tal_names.specs.Places.{name_of_expr, further_arguments, arguments_of}
use Rattle.tal_names.specs.Scopes.{meaning_of}
use Rattle.tal_declarations.specs.Files.{declared_before, named_in}
use Rattle.tal_declarations.specs.Globals.{atom_value}
use Rattle.tal_rules.specs.Statements.{next_walk, inside_do, after}
use Rattle.tal_meaning.specs.Calls.{value_of_argument, values_of_arguments, values_of, value_at, meaning_by, meaning_at}
use Rattle.tal_meaning.specs.Calls.{item_by, variable_by, file_by, procedure_by, items_named, files_named, system_what}
use Rattle.tal_meaning.specs.Calls.{call_what}
use Rattle.tal_meaning.specs.Expressions.{value_of_expr, cond_of_expr, target_of_spot}
use Rattle.tal_meaning.specs.Statements.{answer_of, assign_by, is_down, step_of, statements_of, else_statements}
use Rattle.tal_meaning.specs.Statements.{row_statements}
use Rattle.tal_pieces.proofs.Spelling.SpelledTokens.{either}
use Rattle.tal_pieces.proofs.Words.LiteralWords.{FoundFits, ScopeFits}
use Rattle.tal_pieces.proofs.Words.SpelledDeclarations.{ValueFits, literal_fits, negated_fits}
use Rattle.tal_pieces.proofs.Words.SpelledSyntax.{AllSpelled, zero_fits, words_expr, words_target}
use Rattle.tal_pieces.proofs.Words.WordTrees.{NamesSpell, LocalsSpell, SpellsValue, SpellsSpot, SpellsWhat}
use Rattle.tal_pieces.proofs.Words.WordTrees.{SpellsStatement, spells_number, spells_assign, spells_assign_call}
use Rattle.tal_pieces.proofs.Words.WordTrees.{spells_if, spells_while, spells_for, spells_do, spells_call}
use Rattle.tal_pieces.proofs.Words.WordTrees.{spells_return}
use Rattle.tal_pieces.proofs.Words.WordTrees.{spells_answer, spells_read_update, spells_reply, spells_write_read}
use Rattle.tal_pieces.proofs.Words.WordTrees.{spells_checkpoint, spells_monitor, spells_open, spells_stop}
use Rattle.tal_pieces.proofs.Common.Entries.{each_append, Each}

one_fits : FitsSigned w16 (pos 1)
one_fits = omega arith

-- what is declared before a place fits where what is declared does
declared_fits : (number : ℕ) (found : Option Meaning) → FoundFits found → FoundFits (declared_before number found)
declared_fits number None h = tt
declared_fits number (Some (m.Local place)) h = h
declared_fits number (Some (m.Simple item)) h = h
declared_fits number (Some (m.Literal value)) h = h
declared_fits number (Some (m.Array item)) h = h
declared_fits number (Some (m.Procedure other gives parameters)) h =
    either FoundFits (nat_le other number) (Some (m.Procedure other gives parameters)) None tt tt
declared_fits number (Some (m.ReceiveFile item file)) h = h
declared_fits number (Some (m.ProcessFile item file)) h = h
declared_fits number (Some (m.StrayFile item file)) h = h

or_one : (found : Option ℤ) → ValueFits found → FitsSigned w16 (unwrap_or found (pos 1))
or_one None h = one_fits
or_one (Some value) h = h

-- what a FOR counts by is a word
module _ (s : Scope) (fits : ScopeFits s) where
  words_atom : (a : g.Atom) (ks : List Token) → AllSpelled (g.of_atom a ks)
      → ValueFits (atom_value a (named_in s a)) × AllSpelled ks
  words_atom (g.digits at value) ks h = h
  words_atom (g.known at name) ks h = (literal_fits _ (declared_fits s.number (meaning_of s name) (fits name)), h.1)

  pub words_step : (x : g.Step) (ks : List Token) → AllSpelled (g.of_step x ks)
      → FitsSigned w16 (step_of s x) × AllSpelled ks
  words_step g.step_one ks h = (one_fits, h)
  words_step (g.step_by at (g.positive a)) ks h =
      let r = words_atom a ks h.1 in (or_one (atom_value a (named_in s a)) r.0, r.1)
  words_step (g.step_by at (g.negative sign a)) ks h =
      (or_one _ (negated_fits (atom_value a (named_in s a))), (words_atom a ks h.1.1).1)

module _ (p : Program) (locals : List (List ℕ)) (names : NamesSpell p) (own : LocalsSpell locals) (s : Scope)
    (fits : ScopeFits s) where
  -- the arguments of a call
  abbrev ArgumentSpells : g.Argument → Type 0
  ArgumentSpells a = SpellsValue p locals (value_of_argument s a)

  words_argument : (a : g.Argument) (ks : List Token) → AllSpelled (g.of_argument a ks)
      → ArgumentSpells a × AllSpelled ks
  words_argument (g.value e) ks h = let r = words_expr p locals names own s fits e ks h in (r.value, r.later)
  words_argument (g.receive at) ks h = (spells_number p locals names own _ zero_fits, h.1)
  words_argument (g.process at name) ks h = (spells_number p locals names own _ zero_fits, h.1)
  words_argument (g.quoted at) ks h = (spells_number p locals names own _ zero_fits, h.1)

  words_further : (more : g.Further) (ks : List Token) → AllSpelled (g.of_further more ks)
      → Each ArgumentSpells (further_arguments more) × AllSpelled ks
  words_further g.no_further ks h = (tt, h)
  words_further (g.more_further comma a rest) ks h =
      let first = words_argument a (g.of_further rest ks) h.1 in
      let more = words_further rest ks first.1 in
      ((first.0, more.0), more.1)

  words_arguments : (a : g.Arguments) (ks : List Token) → AllSpelled (g.of_arguments a ks)
      → Each ArgumentSpells (arguments_of a) × AllSpelled ks
  words_arguments g.unlisted ks h = (tt, h)
  words_arguments (g.listed start a rest close) ks h =
      let first = words_argument a (g.of_further rest (tok.Close close ∷ ks)) h.1 in
      let more = words_further rest (tok.Close close ∷ ks) first.1 in
      ((first.0, more.0), more.1.1)

  words_values : (more : g.Values) (ks : List Token) → AllSpelled (g.of_values more ks)
      → Each (SpellsValue p locals) (values_of s more) × AllSpelled ks
  words_values g.no_values ks h = (tt, h)
  words_values (g.more_values comma e rest) ks h =
      let first = words_expr p locals names own s fits e (g.of_values rest ks) h.1 in
      let more = words_values rest ks first.later in
      ((first.value, more.0), more.1)

  values_spell : (arguments : List g.Argument) → Each ArgumentSpells arguments
      → Each (SpellsValue p locals) (values_of_arguments s arguments)
  values_spell [] h = tt
  values_spell (a ∷ rest) h = (h.0, values_spell rest h.1)

  value_spells : (arguments : List g.Argument) (k : ℕ) → Each ArgumentSpells arguments
      → SpellsValue p locals (value_at s (slice_get arguments k))
  value_spells [] k h = spells_number p locals names own _ zero_fits
  value_spells (a ∷ rest) zero h = h.0
  value_spells (a ∷ rest) (suc k) h = value_spells rest k h.1

  -- calls
  system_spells : (arguments : List g.Argument) (called : System) → Each ArgumentSpells arguments
      → SpellsWhat p locals (system_what s arguments called)
  system_spells arguments system.CheckMonitor h = spells_monitor p locals names own
  system_spells arguments system.Checkpoint h =
      spells_checkpoint p locals names own (items_named s arguments) (files_named s arguments)
  system_spells arguments system.Open h =
      spells_open p locals names own (file_by (meaning_at s (slice_get arguments 1)))
  system_spells arguments system.ReadUpdate h =
      spells_read_update p locals names own (item_by (meaning_at s (slice_get arguments 1)))
      (value_at s (slice_get arguments 2))
      (variable_by (meaning_at s (slice_get arguments 3))) (value_spells arguments 2 h)
  system_spells arguments system.Reply h =
      spells_reply p locals names own (item_by (meaning_at s (slice_get arguments 0)))
      (value_at s (slice_get arguments 1)) (value_spells arguments 1 h)
  system_spells arguments system.Stop h = spells_stop p locals names own
  system_spells arguments system.WriteRead h =
      spells_write_read p locals names own (file_by (meaning_at s (slice_get arguments 0)))
      (item_by (meaning_at s (slice_get arguments 1)))
      (value_at s (slice_get arguments 2)) (value_at s (slice_get arguments 3))
      (variable_by (meaning_at s (slice_get arguments 4)))
      (value_spells arguments 2 h) (value_spells arguments 3 h)

  call_spells : (name : List ℕ) (arguments : List g.Argument) (found : Option System) → Each ArgumentSpells arguments
      → SpellsWhat p locals (call_what s name arguments found)
  call_spells name arguments None h =
      spells_call p locals names own (procedure_by (meaning_of s name)) (values_of_arguments s arguments)
      (values_spell arguments h)
  call_spells name arguments (Some called) h = system_spells arguments called h

  words_answer : (a : g.Answer) (ks : List Token) → AllSpelled (g.of_answer a ks)
      → SpellsWhat p locals (what.Return (answer_of s a)) × AllSpelled ks
  words_answer g.no_answer ks h = (spells_return p locals names own, h)
  words_answer (g.answer e) ks h =
      let r = words_expr p locals names own s fits e ks h in
      (spells_answer p locals names own (value_of_expr s e) r.value, r.later)

  assign_spells : (target : g.Spot) (e : g.Expr) (found : Option Meaning)
      → SpellsSpot p locals (target_of_spot s target) → SpellsValue p locals (value_of_expr s e)
      → SpellsWhat p locals (assign_by s target e found)
  assign_spells target e None t h = spells_assign p locals names own (target_of_spot s target) (value_of_expr s e) t h
  assign_spells target e (Some (m.Local place)) t h =
      spells_assign p locals names own (target_of_spot s target) (value_of_expr s e) t h
  assign_spells target e (Some (m.Simple item)) t h =
      spells_assign p locals names own (target_of_spot s target) (value_of_expr s e) t h
  assign_spells target e (Some (m.Literal value)) t h =
      spells_assign p locals names own (target_of_spot s target) (value_of_expr s e) t h
  assign_spells target e (Some (m.Array item)) t h =
      spells_assign p locals names own (target_of_spot s target) (value_of_expr s e) t h
  assign_spells target e (Some (m.Procedure number gives parameters)) t h =
      spells_assign_call p locals names own (target_of_spot s target) number [] t tt
  assign_spells target e (Some (m.ReceiveFile item number)) t h =
      spells_assign p locals names own (target_of_spot s target) (value_of_expr s e) t h
  assign_spells target e (Some (m.ProcessFile item number)) t h =
      spells_assign p locals names own (target_of_spot s target) (value_of_expr s e) t h
  assign_spells target e (Some (m.StrayFile item number)) t h =
      spells_assign p locals names own (target_of_spot s target) (value_of_expr s e) t h

  abbrev StatementsSpell : List Statement → Type 0
  StatementsSpell xs = Each (SpellsStatement p locals) xs

  -- statements
  mutual
    pub words_statement : (t : g.Statement) (w : Walk) (ks : List Token) → AllSpelled (g.of_statement t ks)
        → StatementsSpell (statements_of s w t) × AllSpelled ks
    words_statement g.nothing w ks h = (tt, h)
    words_statement (g.block begin t more end) w ks h =
        let first = words_statement t w (g.of_row more (tok.End end ∷ ks)) h.1 in
        let rest = words_row more (after s w t) (tok.End end ∷ ks) first.1 in (
          each_append (SpellsStatement p locals) (statements_of s w t) (row_statements s (after s w t) more) first.0
              rest.0,
          rest.1.1,
        )
    words_statement (g.if_then head test then_at t o) w ks h =
        let c = words_expr p locals names own s fits test (tok.Then then_at ∷ g.of_statement t (g.of_otherwise o ks))
        h.1 in
        let first = words_statement t (next_walk w) (g.of_otherwise o ks) c.later.1 in
        let second = words_else o (after s (next_walk w) t) ks first.1 in (
          (
            spells_if p locals names own (cond_of_expr s test) (statements_of s (next_walk w) t)
                (else_statements s (after s (next_walk w) t) o) c.test first.0 second.0,
            tt,
          ),
          second.1,
        )
    words_statement (g.while_do head test do_at t) w ks h =
        let c = words_expr p locals names own s fits test (tok.Do do_at ∷ g.of_statement t ks) h.1 in
        let body = words_statement t (next_walk w) ks c.later.1 in (
          (spells_while p locals names own (cond_of_expr s test) (statements_of s (next_walk w) t) c.test body.0, tt),
          body.1,
        )
    words_statement (g.for_do head at name set_at from direction to step do_at t) w ks h =
        let low = words_expr p locals names own s fits from
        (g.of_direction direction ∷ g.of_expr to (g.of_step step (tok.Do do_at ∷ g.of_statement t ks))) h.1.1.1 in
        let high = words_expr p locals names own s fits to (g.of_step step (tok.Do do_at ∷ g.of_statement t ks))
        low.later.1 in
        let by = words_step s fits step (tok.Do do_at ∷ g.of_statement t ks) high.later in
        let body = words_statement t (next_walk (next_walk w)) ks by.1.1 in (
          (
            spells_for p locals names own (variable_by (meaning_of s name)) (value_of_expr s from) (value_of_expr s to)
                (is_down direction) (step_of s step) (statements_of s (next_walk (next_walk w)) t)
                (after s (next_walk (next_walk w)) t).number low.value high.value by.0 body.0,
            tt,
          ),
          body.1,
        )
    words_statement (g.do_until head t at test) w ks h =
        let body = words_statement t (inside_do w) (tok.Until at ∷ g.of_expr test ks) h.1 in
        let c = words_expr p locals names own s fits test ks body.1.1 in (
          (spells_do p locals names own (statements_of s (inside_do w) t) (cond_of_expr s test) body.0 c.test, tt),
          c.later,
        )
    words_statement (g.call head at name a) w ks h =
        let r = words_arguments a ks h.1.1 in
        ((call_spells name (arguments_of a) (system_of name) r.0, tt), r.1)
    words_statement (g.return head a) w ks h =
        let r = words_answer a ks h.1 in
        ((r.0, tt), r.1)
    words_statement (g.assign target at e) w ks h =
        let to = words_target p locals names own s fits target (tok.Assign at ∷ g.of_expr e ks) h in
        let r = words_expr p locals names own s fits e ks to.1.1 in
        ((assign_spells target e (meaning_by s (name_of_expr e)) to.0 r.value, tt), r.later)
    words_statement (g.assign_call target at name_at name start e more close) w ks h =
        let to = words_target p locals names own s fits target
        (tok.Assign at ∷ tok.Name name_at name ∷ tok.Open start
        ∷ g.of_expr e (g.of_values more (tok.Close close ∷ ks))) h in
        let first = words_expr p locals names own s fits e (g.of_values more (tok.Close close ∷ ks)) to.1.1.1.1 in
        let rest = words_values more (tok.Close close ∷ ks) first.later in (
          (
            spells_assign_call p locals names own (target_of_spot s target) (procedure_by (meaning_of s name))
                (value_of_expr s e ∷ values_of s more) to.0 (first.value, rest.0),
            tt,
          ),
          rest.1.1,
        )

    words_else : (o : g.Otherwise) (w : Walk) (ks : List Token) → AllSpelled (g.of_otherwise o ks)
        → StatementsSpell (else_statements s w o) × AllSpelled ks
    words_else g.no_else w ks h = (tt, h)
    words_else (g.otherwise at t) w ks h = words_statement t w ks h.1

    pub words_row : (more : g.Row) (w : Walk) (ks : List Token) → AllSpelled (g.of_row more ks)
        → StatementsSpell (row_statements s w more) × AllSpelled ks
    words_row g.no_row w ks h = (tt, h)
    words_row (g.more_row semicolon t rest) w ks h =
        let first = words_statement t w (g.of_row rest ks) h.1 in
        let later = words_row rest (after s w t) ks first.1 in (
          each_append (SpellsStatement p locals) (statements_of s w t) (row_statements s (after s w t) rest) first.0
              later.0,
          later.1,
        )
