-- The numbers on a way back through a queue are those of the text.
use Rattle.std.proofs.Common.{◌≡◌, ◌≤◌, ◌<◌, inl, inr, ℕ, arith, List, [], ◌∷◌, length, Some, slice_get, refl, ap}
use Rattle.std.proofs.Common.{subst}
use Rattle.std.proofs.lemmas.Option.{slice_get_within}
use Rattle.gd_words.proofs.Distinct.{given-all}
use Rattle.flow_paths.specs.tal_tree.specs.Limits.{IsWithinLimits}
use Rattle.flow_paths.specs.tal_tree.specs.Ordered.{IsOrdered}
use Rattle.flow_paths.specs.tal_tree.specs.Statements.{numbers_of}
use Rattle.flow_paths.specs.tal_tree.specs.declared.program.Procedure.{Procedure}
use Rattle.flow_paths.specs.tal_tree.specs.declared.program.Program.{Program}
use Rattle.flow_paths.specs.process_semantics.specs.Rests.{entry_number}
use Rattle.flow_paths.specs.process_semantics.specs.State.{Entry}
use Rattle.flow_paths.specs.path_semantics.specs.Path.{Leads}
use Rattle.flow_paths.specs.path_semantics.specs.Place.{Place, Stand, next_in, next_entry}
use Rattle.flow_paths.specs.path_semantics.proofs.Kept.{kept-led}
use Rattle.flow_paths.specs.path_semantics.proofs.Levels.{number-own, AreLevels}
use Rattle.flow_paths.specs.path_semantics.proofs.LevelsKept.{levels-kept}
use Rattle.flow_paths.specs.Flow.{IsFlow}
use Rattle.flow_paths.specs.Graph.{Node}
use Rattle.due_search.specs.declared.queue.Visit.{Visit}
use Rattle.due_search.specs.declared.search.Aim.{Aim}
use Rattle.due_search.specs.Ends.{AreNumbered}
use Rattle.due_search.specs.Search.{Stems, IsQueue, IsTrail}
use Rattle.due_search.proofs.Paths.{at-stand}
use Rattle.due_search.proofs.Ways.{way}

at-place : (program : Program) (place : Place) (entry : Entry) → IsWithinLimits program → AreLevels program 0 place
    → next_in place ≡ Some entry → entry_number entry ≤ 2000
at-place program [] entry limits levels next = absurd (cc)
at-place program ([] ∷ callers) entry limits levels next = absurd (cc)
at-place program ((first ∷ rest) ∷ callers) entry limits levels next =
    let k = levels.0 in
    let here = levels.2.belong first (inl refl) in
    let among = given-all (λ (procedure : Procedure). numbers_of procedure.body) program.procedures k
    (entry_number first) (here.numbers (entry_number first) (number-own first)) in
    let low : entry_number first ≤ 2000 = (limits.numbers (entry_number first) among).1 in
    subst (λ (e : Entry). entry_number e ≤ 2000) (let same : first ≡ entry = cc in same) low

-- an entry that comes next where a path leads has a number of the text
number-low : (program : Program) → IsOrdered program → IsWithinLimits program
    → (path : List ℕ) (stand : Stand) (entry : Entry) → Leads program path stand → next_entry stand ≡ Some entry
    → entry_number entry ≤ 2000
number-low program ordered limits path stand entry leads next =
    at-place program stand.place entry limits
    (kept-led program (AreLevels program 0) (levels-kept program ordered) path stand leads) next

-- the nodes to which walks lead have numbers of the text
pub walked-low : (program : Program) (nodes : List Node) → IsFlow program nodes → IsOrdered program
    → IsWithinLimits program → AreNumbered nodes
walked-low program nodes flow ordered limits path k dues node goes got =
    let at = at-stand program nodes flow path k dues node goes got in
    number-low program ordered limits path at.stand node.entry at.leads at.next

pub queue-trail : (nodes : List Node) → AreNumbered nodes → (aim : Aim) (queue : List Visit) (head : ℕ)
    → IsQueue nodes aim queue head → IsTrail nodes queue
queue-trail nodes numbered aim queue head search = record {
  there = search.there;
  earlier = λ place visit got. from-there place visit got (search.stems place visit got);
  steps = search.low;
  numbers = λ place visit node got found.
      let to = way nodes aim queue head search visit.steps place visit got refl in
      numbered to.front visit.node to.led.dues node to.led.goes found;
}
  where
    from-there : (place : ℕ) (visit : Visit) → slice_get queue place ≡ Some visit → Stems nodes aim queue place visit
        → visit.from < length queue
    from-there place visit got (inl first) =
        let is : visit.from ≡ 0 = ap (λ (v : Visit). v.from) first in let inside : place < length queue =
        slice_get_within queue place visit got in omega arith
    from-there place visit got (inr stem) = slice_get_within queue visit.from stem.0 stem.2
