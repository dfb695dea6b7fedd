-- The numbers of a program that a text reads as are words.
use Rattle.std.proofs.Common.{◌≡◌, ℕ, zero, suc, min, Bool, true, false, if◌then◌else◌, List, [], ◌∷◌, length}
use Rattle.std.proofs.Common.{slice_get, is_some, Option, Some, None, refl, sym, subst, arith}
use Rattle.tal_tree.specs.Statements.{all_of}
use Rattle.tal_tree.specs.declared.expression.Expr.{Expr, Number, Read', Minus', Two'}
use Rattle.tal_tree.specs.declared.program.Procedure.{Procedure}
use Rattle.tal_tree.specs.declared.program.Program.{Program}
use Rattle.tal_tree.specs.declared.program.Target.{Target}
use Rattle.tal_tree.specs.declared.program.Target.TheVariants as target
use Rattle.tal_tree.specs.declared.statement.What.{What, What-F}
use Rattle.tal_tree.specs.declared.statement.What.TheVariants as what
use Rattle.tal_tree.specs.declared.statement.What.TheViews.{rolls-Assign, rolls-AssignCall, rolls-If, rolls-While}
use Rattle.tal_tree.specs.declared.statement.What.TheViews.{rolls-For, rolls-DoUntil, rolls-Call, rolls-Return}
use Rattle.tal_tree.specs.declared.statement.What.TheViews.{rolls-ReadUpdate, rolls-Reply, rolls-WriteRead}
use Rattle.tal_tree.specs.declared.statement.What.TheViews.{rolls-Checkpoint, rolls-CheckMonitor, rolls-Open}
use Rattle.tal_tree.specs.declared.statement.What.TheViews.{rolls-Stop}
use Rattle.tal_tokens.specs.declared.token.At.{At}
use Rattle.tal_tokens.specs.declared.token.Token.{Token}
use Rattle.tal_tokens.specs.declared.token.Token.TheVariants as tok
use Rattle.tal_syntax.specs.Grammar as g
use Rattle.tal_names.specs.declared.meaning.Meaning.{Meaning}
use Rattle.tal_names.specs.declared.meaning.Meaning.TheVariants as m
use Rattle.tal_names.specs.declared.scope.Named.{Named}
use Rattle.tal_names.specs.declared.scope.Scope.{Scope}
use Rattle.tal_names.specs.declared.system.System.{System}
use Rattle.tal_names.specs.declared.system.System.TheVariants as system
use Rattle.tal_names.specs.Names.{Declarations, with_name}
use Rattle.tal_names.specs.Places.{arguments_of, first_of_spot, further_arguments, name_of_expr}
use Rattle.tal_names.specs.Scopes.{meaning_of}
use Rattle.tal_names.specs.Systems.{system_of}
use Rattle.tal_declarations.specs.declared.table.Headed.{Headed}
use Rattle.tal_declarations.specs.Globals.{nothing_declared, with_lines}
use Rattle.tal_declarations.specs.Headings.{does_give, heading_of, locals_of, parameters_of, with_heading}
use Rattle.tal_declarations.specs.Headings.{with_headings}
use Rattle.tal_declarations.specs.Headings.{with_local, with_locals}
use Rattle.tal_rules.specs.declared.walk.Progress.{Progress}
use Rattle.tal_rules.specs.declared.walk.Walk.{Walk}
use Rattle.tal_rules.specs.Statements.{after, inside_do, next_walk}
use Rattle.tal_rules.specs.Texts.{after_procedure, walk_at_entry, faults, files_by, first_progress, headed_after}
use Rattle.tal_rules.specs.Texts.{headed_text}
use Rattle.tal_rules.specs.Texts.{locals_by, scope_of}
use Rattle.tal_meaning.specs.Calls.{call_what, file_by, files_named, item_by, items_named, meaning_at, meaning_by}
use Rattle.tal_meaning.specs.Calls.{procedure_by, system_what, value_at, value_of_argument, values_of}
use Rattle.tal_meaning.specs.Calls.{values_of_arguments, variable_by}
use Rattle.tal_meaning.specs.Expressions.{cond_of_expr, target_of_spot, value_of_expr}
use Rattle.tal_meaning.specs.Programs.{body_statements, tree_of, trees_of}
use Rattle.tal_meaning.specs.Statements.{answer_of, assign_by, else_statements, is_down, row_statements, statements_of}
use Rattle.tal_meaning.specs.Statements.{step_of}
use Rattle.tal_reader.specs.Reads.{IsSyntaxOf, Reads}
use Rattle.tal_faultless.proofs.Files.FileMeanings.{file_meaning}
use Rattle.tal_faultless.proofs.Scopes.TextGlobals.{at_end}
use Rattle.deck_reader.specs.tal_laws.proofs.Everywhere.{Everywhere, among_append, everywhere_append, everywhere_one}
use Rattle.tal_pieces.specs.declared.rank.ValueRank.TheVariants as value
use Rattle.tal_pieces.proofs.Spelling.SpelledTokens.{tokens_spelled}
use Rattle.tal_pieces.proofs.Words.LiteralWords.{AreFitting, MeaningFits, ScopeFits, scope_fits, with_fits}
use Rattle.tal_pieces.proofs.Words.SpelledDeclarations.{words_heading, words_lines, words_locals}
use Rattle.tal_pieces.proofs.Words.SpelledStatements.{words_step}
use Rattle.tal_pieces.proofs.Words.SpelledSyntax.{AllSpelled, words_expr, words_target}
use Rattle.tal_pieces.proofs.Words.WordTrees.{NamesSpell, SpellsValue}
use Rattle.shown_forms.specs.told_reports.specs.InForm.{AreEach}
use Rattle.shown_forms.specs.Numbers.{HasWordNumbers, HasWords, IsAnswerWord, IsWordThere}
use Rattle.shown_forms.proofs.Lists.{fits-word}

-- A number that can be spelled is a word: the names of the program that it stands in play no part.
empty : Program
empty = record { items = []; files = []; procedures = []; main = 0 }

empty-names : NamesSpell empty
unfolding empty
empty-names = record { items = λ k. tt; procedures = λ k. tt; files = λ k. tt }

spelled-there : (e : Expr) → SpellsValue empty [] e → IsWordThere e
spelled-there (Number n) spells = fits-word n (spells value.Sum [] tt).0
spelled-there (Read' _ row) spells = tt
spelled-there (Minus' _ row) spells = tt
spelled-there (Two' op _ first _ second) spells = tt

module _ (s : Scope) (fits : ScopeFits s) where
  value-there : (e : g.Expr) (ks : List Token) → AllSpelled (g.of_expr e ks)
      → IsWordThere (value_of_expr s e) × AllSpelled ks
  value-there e ks h =
      let r = words_expr empty [] empty-names (λ k. tt) s fits e ks h in
      (spelled-there (value_of_expr s e) r.value, r.later)

  past-step : (x : g.Step) (ks : List Token) → AllSpelled (g.of_step x ks) → AllSpelled ks
  past-step x ks h = (words_step s fits x ks h).1

  past-target : (x : g.Spot) (ks : List Token) → AllSpelled (g.of_spot x ks) → AllSpelled ks
  past-target x ks h = (words_target empty [] empty-names (λ k. tt) s fits x ks h).1

  abbrev IsArgumentThere : g.Argument → Type 0
  IsArgumentThere a = IsWordThere (value_of_argument s a)

  argument-there : (a : g.Argument) (ks : List Token) → AllSpelled (g.of_argument a ks)
      → IsArgumentThere a × AllSpelled ks
  argument-there (g.value e) ks h = value-there e ks h
  argument-there (g.receive at) ks h = (omega arith, h.1)
  argument-there (g.process at name) ks h = (omega arith, h.1)
  argument-there (g.quoted at) ks h = (omega arith, h.1)

  further-there : (more : g.Further) (ks : List Token) → AllSpelled (g.of_further more ks)
      → AreEach IsWordThere (values_of_arguments s (further_arguments more)) × AllSpelled ks
  further-there g.no_further ks h = (tt, h)
  further-there (g.more_further comma a rest) ks h =
      let first = argument-there a (g.of_further rest ks) h.1 in
      let more = further-there rest ks first.1 in
      ((first.0, more.0), more.1)

  arguments-there : (a : g.Arguments) (ks : List Token) → AllSpelled (g.of_arguments a ks)
      → AreEach IsWordThere (values_of_arguments s (arguments_of a)) × AllSpelled ks
  arguments-there g.unlisted ks h = (tt, h)
  arguments-there (g.listed start a rest close) ks h =
      let first = argument-there a (g.of_further rest (tok.Close close ∷ ks)) h.1 in
      let more = further-there rest (tok.Close close ∷ ks) first.1 in
      ((first.0, more.0), more.1.1)

  values-there : (more : g.Values) (ks : List Token) → AllSpelled (g.of_values more ks)
      → AreEach IsWordThere (values_of s more) × AllSpelled ks
  values-there g.no_values ks h = (tt, h)
  values-there (g.more_values comma e rest) ks h =
      let first = value-there e (g.of_values rest ks) h.1 in
      let more = values-there rest ks first.1 in
      ((first.0, more.0), more.1)

  answer-there : (a : g.Answer) (ks : List Token) → AllSpelled (g.of_answer a ks)
      → IsAnswerWord (answer_of s a) × AllSpelled ks
  answer-there g.no_answer ks h = (tt, h)
  answer-there (g.answer e) ks h = value-there e ks h

  module _ (n line : ℕ) where
    abbrev Lone : What → Type 0
    Lone it = Everywhere HasWords (record { number = n; line = line; what = it } ∷ [])

    assign-there : (target : g.Spot) (e : g.Expr) (found : Option Meaning) → IsWordThere (value_of_expr s e)
        → Lone (assign_by s target e found)
    assign-there target e (Some (m.Procedure number gives parameters)) is =
        everywhere_one HasWords n line (what.AssignCall (target_of_spot s target) number [])
        (What-F.AssignCall (target_of_spot s target) number []) (rolls-AssignCall (target_of_spot s target) number [])
        tt (λ x none. absurd none)
    assign-there target e None is =
        everywhere_one HasWords n line (what.Assign (target_of_spot s target) (value_of_expr s e))
        (What-F.Assign (target_of_spot s target) (value_of_expr s e))
        (rolls-Assign (target_of_spot s target) (value_of_expr s e)) is (λ x none. absurd none)
    assign-there target e (Some _) is =
        everywhere_one HasWords n line (what.Assign (target_of_spot s target) (value_of_expr s e))
        (What-F.Assign (target_of_spot s target) (value_of_expr s e))
        (rolls-Assign (target_of_spot s target) (value_of_expr s e)) is (λ x none. absurd none)

    system-there : (arguments : List g.Argument) (x : System) → Lone (system_what s arguments x)
    system-there arguments system.CheckMonitor =
        everywhere_one HasWords n line _ What-F.CheckMonitor rolls-CheckMonitor tt (λ x none. absurd none)
    system-there arguments system.Checkpoint =
        everywhere_one HasWords n line _ (What-F.Checkpoint _ _)
        (rolls-Checkpoint (items_named s arguments) (files_named s arguments)) tt (λ x none. absurd none)
    system-there arguments system.Open =
        everywhere_one HasWords n line _ (What-F.Open _) (rolls-Open (file_by (meaning_at s (slice_get arguments
        1)))) tt
        (λ x none. absurd none)
    system-there arguments system.ReadUpdate =
        everywhere_one HasWords n line _ (What-F.ReadUpdate _ _ _)
        (rolls-ReadUpdate (item_by (meaning_at s (slice_get arguments 1))) (value_at s (slice_get arguments 2))
        (variable_by (meaning_at s (slice_get arguments 3)))) tt (λ x none. absurd none)
    system-there arguments system.Reply =
        everywhere_one HasWords n line _ (What-F.Reply _ _)
        (rolls-Reply (item_by (meaning_at s (slice_get arguments 0))) (value_at s (slice_get arguments 1))) tt
        (λ x none. absurd none)
    system-there arguments system.Stop =
        everywhere_one HasWords n line _ What-F.Stop rolls-Stop tt (λ x none. absurd none)
    system-there arguments system.WriteRead =
        everywhere_one HasWords n line _ (What-F.WriteRead _ _ _ _ _)
        (rolls-WriteRead (file_by (meaning_at s (slice_get arguments 0)))
        (item_by (meaning_at s (slice_get arguments 1))) (value_at s (slice_get arguments 2))
        (value_at s (slice_get arguments 3)) (variable_by (meaning_at s (slice_get arguments 4)))) tt
        (λ x none. absurd none)

    call-there : (name : List ℕ) (arguments : List g.Argument) (found : Option System)
        → AreEach IsWordThere (values_of_arguments s arguments) → Lone (call_what s name arguments found)
    call-there name arguments (Some x) are = system-there arguments x
    call-there name arguments None are =
        everywhere_one HasWords n line _ (What-F.Call _ _)
        (rolls-Call (procedure_by (meaning_of s name)) (values_of_arguments s arguments)) are (λ x none. absurd none)

  nowhere : Everywhere HasWords []
  nowhere statement among = absurd among

  mutual
    statement-there : (t : g.Statement) (w : Walk) (ks : List Token) → AllSpelled (g.of_statement t ks)
        → Everywhere HasWords (statements_of s w t) × AllSpelled ks
    statement-there g.nothing w ks h = (nowhere, h)
    statement-there (g.block begin t more end) w ks h =
        let first = statement-there t w (g.of_row more (tok.End end ∷ ks)) h.1 in
        let rest = row-there more (after s w t) (tok.End end ∷ ks) first.1 in (
          everywhere_append HasWords (statements_of s w t) (row_statements s (after s w t) more) first.0 rest.0,
          rest.1.1,
        )
    statement-there (g.if_then head test then_at t o) w ks h =
        let c = value-there test (tok.Then then_at ∷ g.of_statement t (g.of_otherwise o ks)) h.1 in
        let first = statement-there t (next_walk w) (g.of_otherwise o ks) c.1.1 in
        let second = else-there o (after s (next_walk w) t) ks first.1 in
        let xs = statements_of s (next_walk w) t in
        let ys = else_statements s (after s (next_walk w) t) o in (
          everywhere_one HasWords w.number head.place.line (what.If (cond_of_expr s test) xs ys)
              (What-F.If (cond_of_expr s test) xs ys) (rolls-If (cond_of_expr s test) xs ys) tt
              (among_append HasWords (all_of xs) (all_of ys) first.0 second.0),
          second.1,
        )
    statement-there (g.while_do head test do_at t) w ks h =
        let c = value-there test (tok.Do do_at ∷ g.of_statement t ks) h.1 in
        let inner = statement-there t (next_walk w) ks c.1.1 in
        let xs = statements_of s (next_walk w) t in (
          everywhere_one HasWords w.number head.place.line (what.While (cond_of_expr s test) xs)
              (What-F.While (cond_of_expr s test) xs) (rolls-While (cond_of_expr s test) xs) tt inner.0,
          inner.1,
        )
    statement-there (g.for_do head at name set_at from direction to step do_at t) w ks h =
        let body : List Token = tok.Do do_at ∷ g.of_statement t ks in
        let low = value-there from (g.of_direction direction ∷ g.of_expr to (g.of_step step body)) h.1.1.1 in
        let high = value-there to (g.of_step step body) low.1.1 in
        let inner = statement-there t (next_walk (next_walk w)) ks (past-step step body high.1).1 in
        let xs = statements_of s (next_walk (next_walk w)) t in
        let last = (after s (next_walk (next_walk w)) t).number in
        let variable = variable_by (meaning_of s name) in (
          everywhere_one HasWords w.number head.place.line
              (what.For variable (value_of_expr s from) (value_of_expr s to) (is_down direction) (step_of s step) xs
              last)
              (What-F.For variable (value_of_expr s from) (value_of_expr s to) (is_down direction) (step_of s step) xs
              last)
              (rolls-For variable (value_of_expr s from) (value_of_expr s to) (is_down direction) (step_of s step) xs
              last)
              low.0 inner.0,
          inner.1,
        )
    statement-there (g.do_until head t at test) w ks h =
        let inner = statement-there t (inside_do w) (tok.Until at ∷ g.of_expr test ks) h.1 in
        let c = value-there test ks inner.1.1 in
        let xs = statements_of s (inside_do w) t in (
          everywhere_one HasWords (after s (inside_do w) t).number at.place.line (what.DoUntil xs (cond_of_expr s test))
              (What-F.DoUntil xs (cond_of_expr s test)) (rolls-DoUntil xs (cond_of_expr s test)) tt inner.0,
          c.1,
        )
    statement-there (g.call head at name a) w ks h =
        let r = arguments-there a ks h.1.1 in
        (call-there w.number head.place.line name (arguments_of a) (system_of name) r.0, r.1)
    statement-there (g.return head a) w ks h =
        let r = answer-there a ks h.1 in (
          everywhere_one HasWords w.number head.place.line (what.Return (answer_of s a)) (What-F.Return (answer_of s a))
              (rolls-Return (answer_of s a)) r.0 (λ x none. absurd none),
          r.1,
        )
    statement-there (g.assign target at e) w ks h =
        let to = past-target target (tok.Assign at ∷ g.of_expr e ks) h in
        let r = value-there e ks to.1 in
        (assign-there w.number (first_of_spot target).place.line target e (meaning_by s (name_of_expr e)) r.0, r.1)
    statement-there (g.assign_call target at name_at name start e more close) w ks h =
        let to = past-target target (tok.Assign at ∷ tok.Name name_at name ∷ tok.Open start
        ∷ g.of_expr e (g.of_values more (tok.Close close ∷ ks))) h in
        let first = value-there e (g.of_values more (tok.Close close ∷ ks)) to.1.1.1 in
        let rest = values-there more (tok.Close close ∷ ks) first.1 in
        let number = procedure_by (meaning_of s name) in (
          everywhere_one HasWords w.number (first_of_spot target).place.line
              (what.AssignCall (target_of_spot s target) number (value_of_expr s e ∷ values_of s more))
              (What-F.AssignCall (target_of_spot s target) number (value_of_expr s e ∷ values_of s more))
              (rolls-AssignCall (target_of_spot s target) number (value_of_expr s e ∷ values_of s more))
              (first.0, rest.0) (λ x none. absurd none),
          rest.1.1,
        )

    else-there : (o : g.Otherwise) (w : Walk) (ks : List Token) → AllSpelled (g.of_otherwise o ks)
        → Everywhere HasWords (else_statements s w o) × AllSpelled ks
    else-there g.no_else w ks h = (nowhere, h)
    else-there (g.otherwise at t) w ks h = statement-there t w ks h.1

    row-there : (more : g.Row) (w : Walk) (ks : List Token) → AllSpelled (g.of_row more ks)
        → Everywhere HasWords (row_statements s w more) × AllSpelled ks
    row-there g.no_row w ks h = (nowhere, h)
    row-there (g.more_row semicolon t rest) w ks h =
        let first = statement-there t w (g.of_row rest ks) h.1 in
        let later = row-there rest (after s w t) ks first.1 in (
          everywhere_append HasWords (statements_of s w t) (row_statements s (after s w t) rest) first.0 later.0,
          later.1,
        )

-- No name of a text stands for a LITERAL that is no word.
locals-fit : (names : List Named) (ds : Declarations) → AreFitting ds → AreFitting (with_locals ds names)
locals-fit [] ds h = h
locals-fit (n ∷ rest) ds h =
    locals-fit rest (with_local ds n.name) (with_fits ds n.name (m.Local (min 12 (length ds))) h tt)

own-fit : (h : g.Heading) (inner : g.Locals) → AreFitting (locals_by h inner)
own-fit (g.heading gives proc at name listed main end) inner =
    locals-fit (locals_of inner) (with_locals [] (parameters_of listed)) (locals-fit (parameters_of listed) [] tt)

heading-fits : (h : g.Heading) (x : Headed) → AreFitting x.names → AreFitting (with_heading x h).names
heading-fits (g.heading gives proc at name listed main end) x f = by (is_some (system_of name))
  where
    own : Meaning
    own = m.Procedure x.count (does_give gives) (length (parameters_of listed))

    by : (taken : Bool) → AreFitting (if taken then x.names else with_name x.names name own)
    by true = f
    by false = with_fits x.names name own f tt

headings-fit : (ps : g.Procedures) (x : Headed) → AreFitting x.names → AreFitting (with_headings x ps).names
headings-fit g.no_procedures x f = f
headings-fit (g.more_procedures q rest) x f =
    headings-fit rest (with_heading x (heading_of q)) (heading-fits (heading_of q) x f)

each-of : (ds : Declarations)
    → ((k : ℕ) (d : List ℕ × Meaning) → slice_get ds k ≡ Some d → MeaningFits d.1) → AreFitting ds
each-of [] is = tt
each-of (d ∷ ds) is = (is 0 d refl, each-of ds (λ k e there. is (suc k) e there))

file-fits : (to : Target) (item number : ℕ) → MeaningFits (file_meaning to item number)
file-fits target.Receive item number = tt
file-fits (target.Process name) item number = tt

-- Procedures
module _ (globals files : Declarations) (globals-fit : AreFitting globals) (files-fit : AreFitting files) where
  -- the statements of a procedure, and the tokens after it
  record ProcedureWords (x : Progress) (head : g.Heading) (inner : g.Locals) (first : g.Statement) (more : g.Row)
      (ks : List Token) : Type 0 where
    body : Everywhere HasWords (body_statements (scope_of globals files x.count head inner)
        (walk_at_entry x head) first more)
    later : AllSpelled ks

  procedure-there : (x : Progress) (h : g.Heading) (outer : g.Locals) (begin : At) (inner : g.Locals)
      (first : g.Statement) (more : g.Row) (end last : At) (ks : List Token)
      → AllSpelled (g.of_procedure (g.procedure h outer begin inner first more end last) ks)
      → ProcedureWords x h inner first more ks
  procedure-there x h outer begin inner first more end last ks a =
      let closing : List Token = tok.End end ∷ tok.Semicolon last ∷ ks in
      let body : List Token = g.of_statement first (g.of_row more closing) in
      let heading = words_heading h (g.of_locals outer (tok.Begin begin ∷ g.of_locals inner body)) a in
      let before = words_locals outer (tok.Begin begin ∷ g.of_locals inner body) heading.later in
      let own = words_locals inner body before.1.1 in
      let s : Scope = scope_of globals files x.count h inner in
      let fits : ScopeFits s = scope_fits s (own-fit h inner) files-fit globals-fit in
      let front = statement-there s fits first (walk_at_entry x h) (g.of_row more closing) own.1 in
      let back = row-there s fits more (after s (walk_at_entry x h) first) closing front.1 in
      record {
        body = everywhere_append HasWords (statements_of s (walk_at_entry x h) first)
            (row_statements s (after s (walk_at_entry x h) first) more) front.0 back.0;
        later = back.1.1.1;
      }

  procedures-there : (ps : g.Procedures) (x : Progress) (ks : List Token) → AllSpelled (g.of_procedures ps ks)
      → (k : ℕ) (procedure : Procedure) → slice_get (trees_of globals files x ps) k ≡ Some procedure
      → Everywhere HasWords procedure.body
  procedures-there g.no_procedures x ks a k procedure there = absurd (cc there)
  procedures-there (g.more_procedures (g.procedure head outer begin inner first more end last) rest) x ks a zero
      procedure there =
      let words = procedure-there x head outer begin inner first more end last (g.of_procedures rest ks) a in
      subst (λ (q : Procedure). Everywhere HasWords q.body) (same-some _ procedure there) words.body
    where
      same-some : (a b : Procedure) → Some a ≡ Some b → a ≡ b
      same-some a b e = cc e
  procedures-there (g.more_procedures (g.procedure head outer begin inner first more end last) rest) x ks a (suc k)
      procedure there =
      let words = procedure-there x head outer begin inner first more end last (g.of_procedures rest ks) a in
      procedures-there rest
      (after_procedure globals files x (g.procedure head outer begin inner first more end last)) ks words.later k
      procedure there

text-numbers : (text : List ℕ) (t : g.Text) → IsSyntaxOf text t → faults t ≡ [] → HasWordNumbers (tree_of t)
text-numbers text (g.text lines ps finish) is fine =
    let all : AllSpelled (g.of_text (g.text lines ps finish)) =
    subst (λ x. AllSpelled x.list) is.1 (tokens_spelled text) in
    let declared = words_lines lines nothing_declared (g.of_procedures ps (tok.Finish finish ∷ [])) (tt, tt) all in
    let files = files_by (headed_text lines ps) ps in
    let opened = (at_end lines ps finish fine).opened in
    procedures-there (headed_text lines ps).names files.names
    (headings-fit ps (headed_after (with_lines nothing_declared lines)) declared.0.1)
    (each-of files.names (λ k d there.
    let one = opened.each k d there in
    subst MeaningFits (sym one.is) (file-fits one.use_of.target one.use_of.item k)))
    ps first_progress (tok.Finish finish ∷ []) declared.1

pub read-numbers : (text : List ℕ) (program : Program) → Reads text program → HasWordNumbers program
read-numbers text program reads = subst HasWordNumbers (sym reads.3) (text-numbers text reads.0 reads.1 reads.2)
