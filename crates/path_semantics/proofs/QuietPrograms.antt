-- Programs without CHECKPOINT, READUPDATE, WRITEREAD and REPLY break nowhere.
use Rattle.std.proofs.Common.{◌≡◌, ℕ, ◌&&◌, Bool, true, false, List, [], ◌∷◌, refl, ap, inl}
use Rattle.gd_words.specs.Members.{is_among}
use Rattle.tal_tree.specs.declared.program.Program.{Program}
use Rattle.tal_tree.specs.declared.statement.What.{What, What-F, out-What}
use Rattle.tal_tree.specs.declared.statement.Statement.{Statement}
use Rattle.process_semantics.specs.State.{Run, Test, Last}
use Rattle.path_semantics.specs.declared.dues.Dues.{Dues}
use Rattle.path_semantics.specs.declared.reason.Reason.{Reason}
use Rattle.path_semantics.specs.declared.reason.Reason.TheVariants.{Data, SyncBlock, Input, Depth}
use Rattle.path_semantics.specs.Place.{Place, next_in}
use Rattle.path_semantics.specs.Break.{Breaks, omits_item, omits_file, sends, may_break, is_enough, breaks_by}
use Rattle.path_semantics.specs.Break.{breaks_entry, breaks_at}
use Rattle.path_semantics.specs.Dues.{asked_by}
use Rattle.path_semantics.specs.Quiet.{IsQuietStatement, IsQuiet}
use Rattle.path_semantics.proofs.Entries.{HoldsAt, entries-kept}
use Rattle.path_semantics.proofs.Kept.{kept-led}

abbrev Quiet : Statement → Type 0
Quiet statement = IsQuietStatement (out-What statement.what)

quiet-item : (item : ℕ) (what : What-F What Statement) → IsQuietStatement what → omits_item item what ≡ false
quiet-item item (What-F.Checkpoint items files) quiet = absurd quiet
quiet-item item _ quiet = refl

quiet-file : (file : ℕ) (what : What-F What Statement) → IsQuietStatement what → omits_file file what ≡ false
quiet-file file (What-F.Checkpoint items files) quiet = absurd quiet
quiet-file file _ quiet = refl

quiet-sent : (what : What-F What Statement) → IsQuietStatement what → sends what ≡ false
quiet-sent (What-F.WriteRead file buffer send room got) quiet = absurd quiet
quiet-sent (What-F.Reply buffer count) quiet = absurd quiet
quiet-sent _ quiet = refl

quiet-asked : (file : ℕ) (what : What-F What Statement) → IsQuietStatement what → is_among file (asked_by what) ≡ false
quiet-asked file (What-F.WriteRead asked buffer send room got) quiet = absurd quiet
quiet-asked file _ quiet = refl

quiet-may : (reason : Reason) (what : What-F What Statement) → IsQuietStatement what → may_break reason what ≡ false
quiet-may (Data item) what quiet = quiet-item item what quiet
quiet-may (SyncBlock file) what quiet = quiet-file file what quiet
quiet-may Input what quiet = quiet-sent what quiet
quiet-may (Depth file) what quiet = quiet-asked file what quiet

quiet-by : (program : Program) (reason : Reason) (dues : Dues) (what : What-F What Statement) → IsQuietStatement what
    → breaks_by program reason dues what ≡ false
quiet-by program reason dues what quiet =
    ap (λ (b : Bool). b && is_enough program reason dues) (quiet-may reason what quiet)

quiet-at : (program : Program) (reason : Reason) (dues : Dues) (place : Place) → HoldsAt Quiet place
    → breaks_entry program reason dues (next_in place) ≡ false
quiet-at program reason dues [] quiet = refl
quiet-at program reason dues ([] ∷ callers) quiet = refl
quiet-at program reason dues ((Run statement ∷ rest) ∷ callers) quiet =
    quiet-by program reason dues (out-What statement.what) (quiet.0.0 statement (inl refl))
quiet-at program reason dues ((Test statement ∷ rest) ∷ callers) quiet = refl
quiet-at program reason dues ((Last statement ∷ rest) ∷ callers) quiet = refl

pub quiet-unbroken : (program : Program) → IsQuiet program → (path : List ℕ) (reason : Reason)
    → Breaks program path reason → ⊥
quiet-unbroken program quiet path reason broken =
    let all : HoldsAt Quiet broken.stand.place =
    kept-led program (HoldsAt Quiet) (entries-kept Quiet program quiet) broken.front broken.stand broken.leads in
    let none : breaks_at program reason broken.stand ≡ false =
    quiet-at program reason broken.stand.dues broken.stand.place all in
    let broke : breaks_at program reason broken.stand ≡ true = broken.breaks in
    absurd (cc)
