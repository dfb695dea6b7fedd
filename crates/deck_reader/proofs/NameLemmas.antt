-- The first line that names amiss, found one after another.
use Rattle.std.proofs.Common.{◌≡◌, ℕ, Bool, true, false, cond, List, [], ◌∷◌, ◌++◌, Option, Some, None, option_map}
use Rattle.std.proofs.Common.{refl, sym, ap, ap₂, ◌∙◌, subst, append-nil}
use Rattle.std.specs.Prelude.{is_some}
use Rattle.name_table.specs.Entries.{Named}
use Rattle.tal_tree.specs.declared.fault.DeckFault.{DeckFault}
use Rattle.tal_tree.specs.declared.fault.DeckFault.TheVariants as fault
use Rattle.tal_tree.specs.declared.site.ProcessSpec.{ProcessSpec}
use Rattle.tal_tree.specs.declared.site.TerminalSpec.{TerminalSpec}
use Rattle.deck_reader.specs.Decks.{AreProcessesOf, IsProcessOf, IsTerminalOf, AreTerminalsOf}
use Rattle.deck_reader.specs.Names.{IsMisnamedTarget, earlier, event_misnamed, first_of, misnamed_in, pairs_misnamed}
use Rattle.deck_reader.specs.Names.{process_misnamed, targets_misnamed}
use Rattle.deck_reader.specs.Refusals.{Tells, fault_at, name_fault}
use Rattle.deck_reader.specs.declared.line_fault.LineFault.{LineFault}
use Rattle.deck_reader.specs.declared.line_fault.LineFault.TheVariants as line
use Rattle.deck_reader.specs.declared.names.NameFault.{NameFault}
use Rattle.deck_reader.specs.declared.outline.Outline.{Outline}
use Rattle.deck_reader.specs.declared.outline.ProcessLines.{ProcessLines}
use Rattle.deck_reader.specs.declared.outline.TerminalLines.{TerminalLines}
use Rattle.deck_reader.proofs.EachLemmas.{IsDoneTo, none_done, one_done}

regrouped : (a b c : Option NameFault) → first_of a (first_of b c) ≡ first_of (first_of a b) c
regrouped None b c = refl
regrouped (Some a) b c = refl

last_of : (a : Option NameFault) → first_of a None ≡ a
last_of None = refl
last_of (Some a) = refl

-- with one more pair
pub pairs_more : (all lines : List (Named ProcessLines)) (specs : List ProcessSpec) (one : Named ProcessLines)
    (spec : ProcessSpec) → AreProcessesOf lines specs
    → pairs_misnamed all (lines ++ one ∷ []) (specs ++ spec ∷ [])
    ≡ first_of (pairs_misnamed all lines specs) (process_misnamed all one.0 one.1.body spec.what)
pairs_more all [] [] one spec each = last_of (process_misnamed all one.0 one.1.body spec.what)
pairs_more all (x ∷ xs) (y ∷ ys) one spec each =
    ap (first_of (process_misnamed all x.0 x.1.body y.what)) (pairs_more all xs ys one spec each.1)
    ∙ regrouped (process_misnamed all x.0 x.1.body y.what) (pairs_misnamed all xs ys)
    (process_misnamed all one.0 one.1.body spec.what)
pairs_more all [] (y ∷ ys) one spec each = absurd each
pairs_more all (x ∷ xs) [] one spec each = absurd each

abbrev named_rest : List (Named ProcessLines) → Named TerminalLines → List (Named TerminalLines) → Option ℕ
    → Option NameFault
named_rest processes terminal rest place =
    cond (is_some place) (targets_misnamed processes rest) (Some (record { line = terminal.1.line; own = false }))

-- where the targets of the first terminals are there
past_front : (processes : List (Named ProcessLines)) (front rest : List (Named TerminalLines))
    (specs : List TerminalSpec) → AreTerminalsOf processes front specs
    → targets_misnamed processes (front ++ rest) ≡ targets_misnamed processes rest
past_front processes [] rest specs each = refl
past_front processes (x ∷ xs) rest [] each = absurd each
past_front processes (x ∷ xs) rest (y ∷ ys) each =
    ap (named_rest processes x (xs ++ rest)) each.0.target ∙ past_front processes xs rest ys each.1

-- and that of the next one is not
pub target_found : (processes : List (Named ProcessLines)) (all rest later : List (Named TerminalLines))
    (one : Named TerminalLines) (specs : List TerminalSpec) (misnamed : NameFault)
    → IsDoneTo (IsTerminalOf processes) all rest specs → rest ≡ one ∷ later → IsMisnamedTarget processes one.1 misnamed
    → targets_misnamed processes all ≡ Some misnamed
target_found processes all rest later one specs misnamed done e is =
    ap (targets_misnamed processes) (done.whole ∙ ap (λ xs. done.front ++ xs) e)
    ∙ past_front processes done.front (one ∷ later) specs done.each
    ∙ ap (named_rest processes one later) is.unknown
    ∙ ap Some (sym is.same)

pub all_named : (processes : List (Named ProcessLines)) (terminals : List (Named TerminalLines))
    (specs : List TerminalSpec) → AreTerminalsOf processes terminals specs → targets_misnamed processes terminals ≡ None
all_named processes [] specs each = refl
all_named processes (x ∷ xs) [] each = absurd each
all_named processes (x ∷ xs) (y ∷ ys) each =
    ap (named_rest processes x xs) each.0.target ∙ all_named processes xs ys each.1

-- no line is the later one
pub nothing_later : (one : Option NameFault) → earlier one None ≡ one
nothing_later None = refl
nothing_later (Some one) = refl

-- of all processes some are read, the first pair of them that names amiss is this, and the rest are left
pub record AreReadTo (all rest : List (Named ProcessLines)) (specs : List ProcessSpec) (misnamed : Option NameFault) :
    Type 0 where
  pub done : IsDoneTo IsProcessOf all rest specs
  pub named : misnamed ≡ pairs_misnamed all done.front specs

pub none_read : (all rest : List (Named ProcessLines)) → rest ≡ all → AreReadTo all rest [] None
unfolding none_done
none_read all rest e = record { done = none_done IsProcessOf all rest e; named = refl }

pub one_read : (all rest later : List (Named ProcessLines)) (one : Named ProcessLines) (specs : List ProcessSpec)
    (spec : ProcessSpec) (before more now : Option NameFault)
    → AreReadTo all rest specs before → rest ≡ one ∷ later → IsProcessOf one spec
    → more ≡ process_misnamed all one.0 one.1.body spec.what → now ≡ first_of before more
    → AreReadTo all later (specs ++ spec ∷ []) now
unfolding one_done
one_read all rest later one specs spec before more now read e is found next = record {
  done = one_done IsProcessOf all rest later one specs spec read.done e is;
  named = next ∙ ap₂ first_of read.named found ∙ sym (pairs_more all read.done.front specs one spec read.done.each);
}

pub all_read : (all rest : List (Named ProcessLines)) (specs : List ProcessSpec) (misnamed : Option NameFault)
    → AreReadTo all rest specs misnamed → rest ≡ []
    → misnamed ≡ pairs_misnamed all all specs
all_read all rest specs misnamed read e =
    let whole : all ≡ read.done.front =
    read.done.whole ∙ ap (λ xs. read.done.front ++ xs) e ∙ append-nil read.done.front in
    read.named ∙ ap (λ xs. pairs_misnamed all xs specs) (sym whole)

-- where every target is there, only pairs and event lines name amiss
pub found_in : (outline : Outline) (specs : List ProcessSpec) (terminals : List TerminalSpec)
    (pair event found : Option NameFault) → AreTerminalsOf outline.processes outline.terminals terminals
    → pair ≡ pairs_misnamed outline.processes outline.processes specs → event ≡ event_misnamed outline.events.unknown
    → found ≡ earlier pair event → misnamed_in outline specs ≡ found
found_in outline specs terminals pair event found each p e f =
    let pairs = pairs_misnamed outline.processes outline.processes specs in
    ap (λ targets. earlier (earlier pairs targets) (event_misnamed outline.events.unknown))
    (all_named outline.processes outline.terminals terminals each)
    ∙ ap (λ one. earlier one (event_misnamed outline.events.unknown)) (nothing_later pairs)
    ∙ sym (ap₂ earlier p e)
    ∙ sym f

-- and where one isn't
pub found_with : (outline : Outline) (specs : List ProcessSpec) (pair event : Option NameFault) (target : NameFault)
    → targets_misnamed outline.processes outline.terminals ≡ Some target
    → pair ≡ pairs_misnamed outline.processes outline.processes specs → event ≡ event_misnamed outline.events.unknown
    → misnamed_in outline specs ≡ earlier (earlier pair (Some target)) event
found_with outline specs pair event target t p e =
    ap (λ targets. earlier (earlier (pairs_misnamed outline.processes outline.processes specs) targets)
    (event_misnamed outline.events.unknown)) t
    ∙ sym (ap₂ (λ a b. earlier (earlier a (Some target)) b) p e)

-- what is told of a name is neither a program's fault nor that memory ran out
pub tells_name : (IsRight : DeckFault → Type 0) (misnamed : NameFault) → IsRight (name_fault misnamed)
    → Tells IsRight (name_fault misnamed)
tells_name IsRight misnamed right = by misnamed.own right
  where
    by : (b : Bool) → IsRight (cond b (fault.OpensItself misnamed.line) (fault.UnknownName misnamed.line))
        → Tells IsRight (cond b (fault.OpensItself misnamed.line) (fault.UnknownName misnamed.line))
    by true right = right
    by false right = right

pub tells_named : (IsRight : DeckFault → Type 0) (misnamed : Option NameFault) (f : DeckFault)
    → option_map name_fault misnamed ≡ Some f → IsRight f → Tells IsRight f
tells_named IsRight None f e right = absurd (cc)
tells_named IsRight (Some misnamed) f e right =
    let same : name_fault misnamed ≡ f = cc in
    subst (Tells IsRight) same (tells_name IsRight misnamed (subst IsRight (sym same) right))

-- nor is what is told of a line
pub tells_line : (IsRight : DeckFault → Type 0) (number : ℕ) (why : LineFault) → IsRight (fault_at number why)
    → Tells IsRight (fault_at number why)
tells_line IsRight number line.Form right = right
tells_line IsRight number line.NameTwice right = right
tells_line IsRight number line.SameProcessor right = right
tells_line IsRight number line.NoProcessor right = right
tells_line IsRight number (line.Limit which) right = right
tells_line IsRight number line.NoEnd right = right
