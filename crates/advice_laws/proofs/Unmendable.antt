-- What breaks for its input, or for the greatest depth, is mended by no choice.
use Rattle.std.proofs.Common.{◌≡◌, ◌≤◌, ◌<◌, ℕ, List, length, slice_get, Some, arith, refl, sym, ◌∙◌}
use Rattle.std.proofs.lemmas.Option.{slice_get_within}
use Rattle.tal_tree.specs.declared.program.FileUse.{FileUse}
use Rattle.tal_tree.specs.declared.program.Program.{Program}
use Rattle.path_semantics.specs.declared.reason.Reason.{Reason}
use Rattle.path_semantics.specs.declared.reason.Reason.TheVariants.{Data, SyncBlock, Input, Depth}
use Rattle.path_semantics.specs.Accepted.{IsAccepted}
use Rattle.path_semantics.specs.Break.{asked_count, Breaks}
use Rattle.path_semantics.specs.Place.{next_entry}
use Rattle.advice.specs.Answer.{IsBeyondLists}
use Rattle.advice.specs.Choice.{Choice, with_choice, deepest, IsChoice}
use Rattle.advice.specs.Due.{IsAskedAfter}
use Rattle.advice.proofs.Deepest.{leads-own, input-own, depth-asked}
use Rattle.advice_laws.proofs.Accepting.{fewer-counted, input-stays}

module _ (program : Program) where
  -- a break of the input with the greatest depths is one of the program
  pub input-broken : (path : List ℕ) → Breaks (deepest program) path Input → Breaks program path Input
  input-broken path broken = record {
    front = broken.front;
    number = broken.number;
    stand = broken.stand;
    split = broken.split;
    leads = leads-own program broken.front broken.stand broken.leads;
    next = broken.next;
    breaks = sym (input-own program broken.stand.dues (next_entry broken.stand)) ∙ broken.breaks;
  }

  -- a break with the greatest depth is a file that is there, and is asked after at least four
  pub depth-broken : (path : List ℕ) (file : ℕ) → Breaks (deepest program) path (Depth file)
      → ((one : FileUse) × (slice_get program.files file ≡ Some one)) × (count : ℕ) × IsAskedAfter program file count
      × (4 ≤ count)
  depth-broken path file broken =
      let told = depth-asked program file broken.stand.dues (next_entry broken.stand) broken.breaks in (
        told.1,
        asked_count file broken.stand.dues,
        record {
          path = broken.front;
          stand = broken.stand;
          leads = leads-own program broken.front broken.stand broken.leads;
          next = told.0;
          counted = refl;
        },
        told.2,
      )

  pub beyond-stays : (reason : Reason) (path : List ℕ) → IsBeyondLists reason → Breaks (deepest program) path reason
      → (choice : Choice) → IsChoice program choice → IsAccepted (with_choice program choice) → ⊥
  beyond-stays (Data item) path beyond broken choice is accepted = absurd beyond
  beyond-stays (SyncBlock file) path beyond broken choice is accepted = absurd beyond
  beyond-stays Input path beyond broken choice is accepted =
      input-stays choice program path (input-broken path broken) accepted
  beyond-stays (Depth file) path beyond broken choice is accepted =
      let asked = depth-broken path file broken in
      let many : 4 ≤ asked.1 = asked.3 in
      let fewer : asked.1 < choice.depth file =
      fewer-counted choice program accepted file asked.1 asked.0.0 asked.0.1 asked.2 in
      let inside : file < length program.files = slice_get_within program.files file asked.0.0 asked.0.1 in
      let few : choice.depth file ≤ 4 = is.highest file inside in
      absurd (omega arith)
