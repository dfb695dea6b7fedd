-- The nodes and the headings of a program that was loaded.
use Rattle.std.proofs.Common.{◌≡◌, inr, ℕ, zero, suc, ◌+◌, ◌≤◌, ◌<◌, Bool, List, [], ◌∷◌, ◌++◌, map, length, get_or}
use Rattle.std.proofs.Common.{take, refl, ap, sym, subst, ◌∙◌, append-nil, arith}
use Rattle.std.proofs.lemmas.Grind.{flat_map-append}
use Rattle.std.proofs.lemmas.List.{take_more, length-map}
use Rattle.std.proofs.lemmas.Option.{slice_get-map, slice_get-get_or}
use Rattle.std.specs.Option.{option_map}
use Rattle.std.specs.Prelude.{Option, Some, None, slice_get}
use Rattle.gd_words.specs.Members.{IsAmong}
use Rattle.gd_words.proofs.Among.{among-at}
use Rattle.tal_tree.specs.Limits.{IsWithinLimits}
use Rattle.tal_tree.specs.Ordered.{IsNumbered}
use Rattle.tal_tree.specs.Regular.{IsRegular, IsRegularProcedure, IsRegularStatement}
use Rattle.tal_tree.specs.declared.expression.Expr.{Expr}
use Rattle.tal_tree.specs.declared.program.Procedure.{Procedure}
use Rattle.tal_tree.specs.declared.program.Program.{Program}
use Rattle.tal_tree.specs.declared.statement.Statement.{Statement}
use Rattle.tal_tree.specs.declared.statement.What.{What, What-F, out-What}
use Rattle.process_semantics.specs.Rests.{rests, rests_of}
use Rattle.process_semantics.specs.State.{Entry, Run, Test, Last, runs_of}
use Rattle.process_semantics.proofs.Standing.{entry-stands}
use Rattle.program_deeds.specs.Deed.{deed_of, deed_run, deed_test, deed_last}
use Rattle.tal_table.specs.Loads.{FindsAll, IsNode, IsNodeAmong, Each, Puts, Fills, rests_all, heading_of}
use Rattle.tal_table.specs.Places.{places, rest_at}
use Rattle.tal_table.specs.Tables.{HasFew, Tells, Heads, IsOf, AreNodes, AreHeadings, IsTable}
use Rattle.tal_table.specs.declared.node.Heading.{Heading}
use Rattle.tal_table.specs.declared.node.Node.{Node}
use Rattle.tal_table.specs.declared.node.Work.TheVariants as work
use Rattle.tal_table.proofs.Nodes.{each-append, each-weaker, each-length, each-at, begins-at}
use Rattle.tal_table.proofs.Numbered.{here-at, all-found, given-at, among-places}

-- Procedures, one after the other

pub fills-start : (procedures : List Procedure) (nodes : List Node)
    → nodes ≡ record { procedure = 0; work = work.Return None; after = 0 } ∷ [] → Fills procedures [] nodes
fills-start procedures nodes is = record { made = []; behind = is; are = λ all here found. tt }

pub fills-next : (procedures : List Procedure) (old new : List Node) (k : ℕ) (procedure : Procedure)
    → procedure ≡ get_or procedures k procedure → k < length procedures
    → Puts old new k (rests procedure.body) 0 → Fills procedures (take k procedures) old
    → Fills procedures (take (k + 1) procedures) new
fills-next procedures old new k procedure is within put so_far =
    let there : slice_get procedures k ≡ Some procedure =
    slice_get-get_or procedures k procedure within ∙ ap (λ (p : Procedure). Some p) (sym is) in
    let whole : rests_all (take (k + 1) procedures) ≡ rests_all (take k procedures) ++ rests_of procedure.body =
    ap rests_all (take_more procedures k procedure within
    ∙ ap (λ (p : Procedure). take k procedures ++ p ∷ []) (sym is))
    ∙ flat_map-append (λ (p : Procedure). rests_of p.body) (take k procedures) (procedure ∷ [])
    ∙ ap (λ (xs : List (List Entry)). rests_all (take k procedures) ++ xs) (append-nil (rests_of procedure.body)) in
    record {
      made = so_far.made ++ put.made;
      behind = put.behind ∙ ap (λ (nodes : List Node). nodes ++ put.made) so_far.behind;
      are = λ all here found.
          let in_body : FindsAll all (rests_of procedure.body) =
          λ rest among. found rest (given-at procedures k procedure rest there among) in
          subst (λ (xs : List (List Entry)). Each (IsNodeAmong all procedures) xs (so_far.made ++ put.made)) (sym whole)
          (each-append (IsNodeAmong all procedures) (rests_all (take k procedures)) (rests_of procedure.body)
          so_far.made put.made (so_far.are all here found)
          (each-weaker (IsNode all k) (IsNodeAmong all procedures) (rests_of procedure.body) put.made
          (λ rest node among is_node. record {
            deed = is_node.deed;
            after = is_node.after;
            own = (procedure, ap (slice_get procedures) is_node.own ∙ there, among);
          }) (put.are all [] refl here in_body)));
    }

-- Few arguments

module _ (program : Program) (limits : IsWithinLimits program) where
  few-called : (called : ℕ) (procedure : Procedure) (arguments : List Expr)
      → slice_get program.procedures called ≡ Some procedure
      → length arguments ≤ length procedure.locals → length arguments ≤ 12
  few-called called procedure arguments there few =
      let few_locals : length procedure.locals ≤ 12 =
      (limits.each_procedure procedure (among-at program.procedures called procedure there)).locals in omega arith

  few-run : (locals : ℕ) (gives : Bool) (after : List Entry) (statement : Statement) (layer : What-F What Statement)
      → IsRegularStatement program locals gives layer
      → HasFew (deed_run after statement layer)
  few-run locals gives after statement (What-F.AssignCall to called arguments) regular =
      few-called called regular.1.procedure arguments regular.1.there regular.1.few
  few-run locals gives after statement (What-F.Call called arguments) regular =
      few-called called regular.procedure arguments regular.there regular.few
  few-run locals gives after statement _ regular = tt

  few-test : (after : List Entry) (statement : Statement) (layer : What-F What Statement)
      → HasFew (deed_test after statement layer)
  few-test after statement (What-F.For variable from to down step body last) = tt
  few-test after statement _ = tt

  few-last : (after : List Entry) (layer : What-F What Statement) → HasFew (deed_last after layer)
  few-last after (What-F.For variable from to down step body last) = tt
  few-last after _ = tt

  few-rest : (procedure : Procedure) → IsRegularProcedure program procedure → (rest : List Entry)
      → IsAmong rest (rests_of procedure.body) → HasFew (deed_of rest)
  few-rest procedure regular [] among = tt
  few-rest procedure regular (Run statement ∷ after) among =
      few-run (length procedure.locals) procedure.gives after statement (out-What statement.what)
      (regular.statements statement (entry-stands procedure.body (Run statement) after (inr among)))
  few-rest procedure regular (Test statement ∷ after) among = few-test after statement (out-What statement.what)
  few-rest procedure regular (Last statement ∷ after) among = few-last after (out-What statement.what)

-- The whole program

module _ (program : Program) (numbered : IsNumbered program) where
  nodes-each : (nodes : List Node) (filled : Fills program.procedures program.procedures nodes)
      → Each (IsNodeAmong (places program) program.procedures) (rests_all program.procedures) filled.made
  nodes-each nodes filled = filled.are (places program) refl (λ rest among. all-found program numbered rest (inr among))

  node-tells : IsWithinLimits program → IsRegular program → (rest : List Entry) (node : Node)
      → IsNodeAmong (places program) program.procedures rest node
      → Tells program rest node
  node-tells limits regular rest node is = record {
    deed = is.deed;
    after = is.after;
    few = subst HasFew (sym is.deed) (few-rest program limits is.own.0
        (regular.procedures node.procedure is.own.0 is.own.1) rest is.own.2);
  }

  tells-at : IsWithinLimits program → IsRegular program
      → (nodes : List Node) (filled : Fills program.procedures program.procedures nodes) (number : ℕ) (node : Node)
      → slice_get (record { procedure = 0; work = work.Return None; after = 0 } ∷ filled.made) number ≡ Some node
      → Tells program (rest_at (places program) number) node
  tells-at limits regular nodes filled zero node there =
      let same : record { procedure = 0; work = work.Return None; after = 0 } ≡ node = cc in
      subst (Tells program []) same (record { deed = refl; after = refl; few = tt })
  tells-at limits regular nodes filled (suc k) node there =
      let found = each-at (IsNodeAmong (places program) program.procedures) (rests_all program.procedures) filled.made
      k node (nodes-each nodes filled) there in
      subst (λ (rest : List Entry). Tells program rest node) (sym (here-at (places program) (suc k) found.0 found.1))
      (node-tells limits regular found.0 node found.2)

  owns-at : (nodes : List Node) (filled : Fills program.procedures program.procedures nodes) (number : ℕ) (node : Node)
      → 1 ≤ number
      → slice_get (record { procedure = 0; work = work.Return None; after = 0 } ∷ filled.made) number ≡ Some node
      → IsOf program.procedures node.procedure (rest_at (places program) number)
  owns-at nodes filled zero node some there = absurd (omega arith)
  owns-at nodes filled (suc k) node some there =
      let found = each-at (IsNodeAmong (places program) program.procedures) (rests_all program.procedures) filled.made
      k node (nodes-each nodes filled) there in
      subst (IsOf program.procedures node.procedure) (sym (here-at (places program) (suc k) found.0 found.1))
      found.2.own

  pub nodes-are : IsWithinLimits program → IsRegular program → (nodes : List Node)
      → Fills program.procedures program.procedures nodes → AreNodes program nodes
  nodes-are limits regular nodes filled = record {
    tell = λ number node there. tells-at limits regular nodes filled number node
        (subst (λ (ns : List Node). slice_get ns number ≡ Some node) filled.behind there);
    own = λ number node some there. owns-at nodes filled number node some
        (subst (λ (ns : List Node). slice_get ns number ≡ Some node) filled.behind there);
    all =
        let whole : length nodes ≡ length filled.made + 1 = ap length filled.behind ∙ (omega arith) in
        let same : length filled.made ≡ length (rests_all program.procedures) =
        each-length (IsNodeAmong (places program) program.procedures) (rests_all program.procedures) filled.made
        (nodes-each nodes filled) in
        omega arith;
  }

  some-given : {A B : Type 0} (f : A → B) (found : Option A) (y : B) → option_map f found ≡ Some y
      → (x : A) × (found ≡ Some x) × (f x ≡ y)
  some-given f None y is = absurd (cc)
  some-given f (Some x) y is = (x, refl, (let same : f x ≡ y = cc in same))

  heads-by : IsWithinLimits program → (number : ℕ) (procedure : Procedure)
      → slice_get program.procedures number ≡ Some procedure → Heads program number (heading_of procedure)
  heads-by limits number procedure there = record {
    procedure = procedure;
    there = there;
    first = begins-at (places program) procedure.body 0 [] refl refl
        (λ rest among. all-found program numbered rest (among-places program number procedure rest there among))
        ∙ append-nil (runs_of procedure.body);
    locals = refl;
    few = (limits.each_procedure procedure (among-at program.procedures number procedure there)).locals;
  }

  pub headings-are : IsWithinLimits program → (headings : List Heading) → headings ≡ map heading_of program.procedures
      → AreHeadings program headings
  headings-are limits headings is = record {
    head = λ number heading there.
        let found = some-given heading_of (slice_get program.procedures number) heading
        (sym (ap (λ (hs : List Heading). slice_get hs number) is ∙ slice_get-map heading_of program.procedures number)
        ∙ there) in
        subst (Heads program number) found.2 (heads-by limits number found.0 found.1);
    all = ap length is ∙ length-map program.procedures heading_of;
  }

pub few-locals : (program : Program) (procedures : List Procedure) → procedures ≡ program.procedures
    → IsWithinLimits program → (k : ℕ) (d : Procedure) → k < length procedures
    → length (get_or procedures k d).locals ≤ 12
few-locals program procedures is limits k d within =
    let there : slice_get program.procedures k ≡ Some (get_or procedures k d) =
    ap (λ (ps : List Procedure). slice_get ps k) (sym is) ∙ slice_get-get_or procedures k d within in
    (limits.each_procedure (get_or procedures k d) (among-at program.procedures k (get_or procedures k d) there)).locals

pub table-is : (program : Program) (procedures : List Procedure) (nodes : List Node) (headings : List Heading)
    → procedures ≡ program.procedures → IsNumbered program
    → IsWithinLimits program → IsRegular program → Fills procedures procedures nodes
    → headings ≡ map heading_of procedures → IsTable program nodes headings
table-is program procedures nodes headings is numbered limits regular filled heads = record {
  numbered = numbered;
  limits = limits;
  regular = regular;
  nodes_are = nodes-are program numbered limits regular nodes
      (subst (λ (ps : List Procedure). Fills ps ps nodes) is filled);
  headings_are = headings-are program numbered limits headings (heads ∙ ap (map heading_of) is);
}
