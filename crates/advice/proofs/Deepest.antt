-- A program with the greatest depths has the paths of the program, with the same dues; where it breaks for a depth a
-- file is asked after four.
use Rattle.std.proofs.Common.{◌≡◌, ◌≤◌, ℕ, ◌==◌, ◌&&◌, ◌||◌, nat_le, Bool, true, false, IsTrue, List, [], ◌∷◌, map}
use Rattle.std.proofs.Common.{slice_get, Option, Some, None, option_map, arith, refl, ap, subst, sym, ◌∙◌}
use Rattle.std.proofs.lemmas.Option.{slice_get-map}
use Rattle.gd_words.specs.Members.{IsAmong}
use Rattle.tal_tree.specs.declared.program.FileUse.{FileUse}
use Rattle.tal_tree.specs.declared.program.Program.{Program}
use Rattle.tal_tree.specs.declared.statement.Statement.{Statement}
use Rattle.tal_tree.specs.declared.statement.What.{What, What-F, out-What}
use Rattle.discipline.specs.process_semantics.specs.State.{Entry, Run, Test, Last}
use Rattle.discipline.specs.path_semantics.specs.declared.dues.Dues.{Dues}
use Rattle.discipline.specs.path_semantics.specs.declared.reason.Reason.TheVariants.{Input, Depth}
use Rattle.discipline.specs.path_semantics.specs.Break.{asked_count, is_reached, breaks_by, breaks_entry}
use Rattle.discipline.specs.path_semantics.specs.Dues.{after_entry}
use Rattle.discipline.specs.path_semantics.specs.Path.{Walks, Leads}
use Rattle.discipline.specs.path_semantics.specs.Place.{Place, Stand, ways_of, settled, stands_after, first_stand}
use Rattle.advice.specs.Choice.{deepened, deepest}
use Rattle.advice.specs.Due.{is_ask, is_ask_next}

module _ (program : Program) where
  ways-kept : (self : Statement) (rest : List Entry) (callers : Place) (layer : What-F What Statement)
      → ways_of (deepest program) self rest callers layer ≡ ways_of program self rest callers layer
  ways-kept self rest callers (What-F.AssignCall to procedure arguments) = refl
  ways-kept self rest callers (What-F.Call procedure arguments) = refl
  ways-kept self rest callers _ = refl

  -- an entry leads where it leads in the program
  pub successors-kept : (dues : Dues) (place : Place)
      → stands_after (deepest program) dues place ≡ stands_after program dues place
  successors-kept dues [] = refl
  successors-kept dues ([] ∷ callers) = refl
  successors-kept dues ((Run self ∷ rest) ∷ callers) =
      ap (λ (ways : List Place). map (settled (after_entry dues (Run self))) ways)
      (ways-kept self rest callers (out-What self.what))
  successors-kept dues ((Test self ∷ rest) ∷ callers) = refl
  successors-kept dues ((Last self ∷ rest) ∷ callers) = refl

  walks-undone : (path : List ℕ) (here there : Stand) → Walks (deepest program) here path there
      → Walks program here path there
  walks-undone [] here there same = same
  walks-undone (number ∷ path) here there walk = (
    walk.0,
    record {
      next = walk.1.next;
      leads = subst (λ (stands : List Stand). IsAmong walk.0 stands)
          (successors-kept here.dues here.place) walk.1.leads;
    },
    walks-undone path walk.0 there walk.2,
  )

  -- and paths lead to the same stands
  pub leads-own : (path : List ℕ) (stand : Stand) → Leads (deepest program) path stand → Leads program path stand
  leads-own path stand walk = walks-undone path (first_stand program) stand walk

  pub input-own : (dues : Dues) (next : Option Entry)
      → breaks_entry (deepest program) Input dues next ≡ breaks_entry program Input dues next
  input-own dues None = refl
  input-own dues (Some (Run statement)) = refl
  input-own dues (Some (Test statement)) = refl
  input-own dues (Some (Last statement)) = refl

  reached-told : (file : Option FileUse) (count : ℕ) → IsTrue (is_reached (option_map deepened file) count)
      → ((one : FileUse) × (file ≡ Some one)) × (4 ≤ count)
  reached-told None count is = absurd (let wrong : false ≡ true = is in cc)
  reached-told (Some file) count is = ((file, refl), let few : IsTrue (nat_le 4 count) = is in grind arith)

  or-none : (b : Bool) → (b || false) ≡ b
  or-none true = refl
  or-none false = refl

  depth-layer : (file : ℕ) (dues : Dues) (layer : What-F What Statement)
      → breaks_by (deepest program) (Depth file) dues layer
      ≡ (is_ask file layer && is_reached (slice_get (deepest program).files file) (asked_count file dues))
  depth-layer file dues (What-F.WriteRead asked buffer send room got) =
      ap (λ (b : Bool). b && is_reached (slice_get (deepest program).files file) (asked_count file dues))
      (or-none (asked == file))
  depth-layer file dues _ = refl

  depth-next : (file : ℕ) (dues : Dues) (next : Option Entry)
      → breaks_entry (deepest program) (Depth file) dues next
      ≡ (is_ask_next file next && is_reached (slice_get (deepest program).files file) (asked_count file dues))
  depth-next file dues None = refl
  depth-next file dues (Some (Run statement)) = depth-layer file dues (out-What statement.what)
  depth-next file dues (Some (Test statement)) = refl
  depth-next file dues (Some (Last statement)) = refl

  each : (a b : Bool) → IsTrue (a && b) → IsTrue a × IsTrue b
  each true b is = (refl, is)
  each false b is = absurd (let wrong : false ≡ true = is in cc)

  -- an entry breaks for the greatest depth where it asks a file that is there and four or more are counted
  pub depth-asked : (file : ℕ) (dues : Dues) (next : Option Entry)
      → IsTrue (breaks_entry (deepest program) (Depth file) dues next)
      → IsTrue (is_ask_next file next) × ((one : FileUse) × (slice_get program.files file ≡ Some one))
      × (4 ≤ asked_count file dues)
  depth-asked file dues next broken =
      let told = each (is_ask_next file next)
      (is_reached (slice_get (deepest program).files file) (asked_count file dues))
      (sym (depth-next file dues next) ∙ broken) in
      let reached = reached-told (slice_get program.files file) (asked_count file dues)
      (subst (λ (one : Option FileUse). IsTrue (is_reached one (asked_count file dues)))
      (slice_get-map deepened program.files file) told.1) in
      (told.0, reached.0, reached.1)
