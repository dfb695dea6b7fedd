-- The programs of a deck's pairs are what their texts read as.
use Rattle.std.proofs.Common.{◌≡◌, ℕ, zero, suc, List, [], ◌∷◌, slice_get, Some, ap, ◌∙◌, subst}
use Rattle.name_table.specs.Entries.{Named}
use Rattle.tal_laws.specs.tal_reader.specs.Reads.{Reads}
use Rattle.tal_tree.specs.declared.program.Program.{Program}
use Rattle.tal_tree.specs.declared.site.Kind.{Kind}
use Rattle.tal_tree.specs.declared.site.Kind.TheVariants as kind
use Rattle.tal_tree.specs.declared.site.ProcessSpec.{ProcessSpec}
use Rattle.deck_reader.specs.Decks.{AreProcessesOf, Decks, IsKindOf}
use Rattle.deck_reader.specs.declared.deck.Deck.{Deck}
use Rattle.deck_reader.specs.declared.outline.Body.{Body}
use Rattle.deck_reader.specs.declared.outline.Body.TheVariants as body
use Rattle.deck_reader.specs.declared.outline.ProcessLines.{ProcessLines}

program_read : (lines : Body) (what : Kind) (program : Program) → IsKindOf lines what → what ≡ kind.Pair program
    → (text : List ℕ) × Reads text program
program_read (body.Disc told both) (kind.Disc sectors mirrored) program is same = absurd (cc)
program_read (body.Disc told both) (kind.Pair one) program is same = absurd is
program_read (body.Pair lines) (kind.Disc sectors mirrored) program is same = absurd is
program_read (body.Pair lines) (kind.Pair one) program reads same =
    let equal : one ≡ program = cc in (lines.text, subst (Reads lines.text) equal reads)

programs_read : (lines : List (Named ProcessLines)) (specs : List ProcessSpec) (number : ℕ) (spec : ProcessSpec)
    (program : Program) → AreProcessesOf lines specs
    → slice_get specs number ≡ Some spec → spec.what ≡ kind.Pair program → (text : List ℕ) × Reads text program
programs_read [] [] number spec program are there pair = absurd (cc)
programs_read [] (first ∷ specs) number spec program are there pair = absurd are
programs_read (one ∷ lines) [] number spec program are there pair = absurd are
programs_read (one ∷ lines) (first ∷ specs) zero spec program are there pair =
    let same : first ≡ spec =
    cc in program_read one.1.body first.what program are.0.what (ap (λ (s : ProcessSpec). s.what) same ∙ pair)
programs_read (one ∷ lines) (first ∷ specs) (suc number) spec program are there pair =
    programs_read lines specs number spec program are.1 there pair

pub deck_programs : (bytes : List ℕ) (deck : Deck) (number : ℕ) (spec : ProcessSpec) (program : Program)
    → Decks bytes deck
    → slice_get deck.site.processes number ≡ Some spec → spec.what ≡ kind.Pair program
    → (text : List ℕ) × Reads text program
deck_programs bytes deck number spec program decks there pair =
    programs_read decks.outlined.0.processes deck.site.processes number spec program decks.outlined.2.processes there
    pair
