-- What a CHECKPOINT leaves due.
use Rattle.std.proofs.Common.{◌≡◌, ℕ, List, [], ◌∷◌, ◌++◌, false, Some, map, inl, inr, sym, ap, subst, ◌∙◌}
use Rattle.std.proofs.lemmas.List.{append-nil, append_assoc}
use Rattle.tal_tree.specs.declared.program.Program.{Program}
use Rattle.tal_tree.specs.declared.statement.Statement.{Statement}
use Rattle.tal_tree.specs.declared.statement.What.{What, What-F, out-What}
use Rattle.gd_words.specs.Members.{IsAmong}
use Rattle.process_semantics.specs.State.{Entry, Run}
use Rattle.path_semantics.specs.declared.dues.Dues.{Dues}
use Rattle.path_semantics.specs.Dues.{no_dues, with_changed, after_statement, changed_by_return, targets_of}
use Rattle.path_semantics.specs.Place.{Place, Stand, ways_of, settled, stand_at, calls_ended, successors}

pub checkpoint-after : (program : Program) (dues : Dues) (statement : Statement) (items files : List ℕ)
    (rest : List Entry) (callers : Place)
    → out-What statement.what ≡ What-F.Checkpoint items files
    → successors program (record { place = (Run statement ∷ rest) ∷ callers; dues = dues })
    ≡ stand_at rest callers no_dues ∷ []
checkpoint-after program dues statement items files rest callers is =
    ap (λ (what : What-F What Statement). map (settled (after_statement dues what))
    (ways_of program statement rest callers what)) is

abbrev with_globals : Dues → List ℕ → Dues
with_globals dues globals = record dues { globals = globals }

alone : {A : Type 0} {x y : A} → IsAmong x (y ∷ []) → x ≡ y
alone (inl same) = same
alone (inr none) = absurd none

changed-none : (dues : Dues) → dues ≡ with_changed [] dues
changed-none dues = ap (λ (globals : List ℕ). with_globals dues globals) (sym (append-nil dues.globals))

changed-both : (dues : Dues) (first second : List ℕ)
    → with_changed second (with_changed first dues) ≡ with_changed (first ++ second) dues
changed-both dues first second =
    ap (λ (globals : List ℕ). with_globals dues globals) (append_assoc dues.globals first second)

-- where procedures are left, the targets of their calls are due with what was due before
left-due : (rest : List Entry) (callers : Place) (dues : Dues)
    → (stand_at rest callers dues).dues ≡ with_changed (targets_of (calls_ended rest callers)) dues
left-due (entry ∷ rest) callers dues = changed-none dues
left-due [] [] dues = changed-none dues
left-due [] ([] ∷ callers) dues =
    left-due [] callers (with_changed [] dues) ∙ changed-both dues [] (targets_of (calls_ended [] callers))
left-due [] ((call ∷ rest) ∷ callers) dues =
    left-due rest callers (with_changed (changed_by_return (Some call)) dues)
    ∙ changed-both dues (changed_by_return (Some call)) (targets_of (calls_ended rest callers))

pub checkpoint-due : (program : Program) (dues : Dues) (statement : Statement) (items files : List ℕ)
    (rest : List Entry) (callers : Place) (stand : Stand)
    → out-What statement.what ≡ What-F.Checkpoint items files
    → IsAmong stand (successors program (record { place = (Run statement ∷ rest) ∷ callers; dues = dues }))
    → stand.dues ≡ record { globals = targets_of (calls_ended rest callers); asked = []; read = false }
checkpoint-due program dues statement items files rest callers stand is among =
    ap (λ (s : Stand). s.dues) (alone (subst (λ (stands : List Stand). IsAmong stand stands)
    (checkpoint-after program dues statement items files rest callers is) among))
    ∙ left-due rest callers no_dues
