-- Names that are new when their lines come are names of which none stands twice.
use Rattle.std.proofs.Common.{◌≡◌, ℕ, false, not, ◌&&◌, List, [], ◌∷◌, ◌++◌, map, refl, sym, ◌∙◌, true≢false, inl, inr}
use Rattle.std.proofs.lemmas.Bool.{false_from_ne_true, or_parts, or_from}
use Rattle.std.specs.Cmp.Lexicographic.{bytes_decides}
use Rattle.std.specs.Str.{bytes_eq}
use Rattle.gd_words.specs.Members.{IsAmong}
use Rattle.name_table.specs.Entries.{Named, has_name}
use Rattle.deck_reader.specs.LineFaults.{is_new}
use Rattle.deck_reader.specs.Outlined.{with_process, with_terminal}
use Rattle.deck_reader.specs.declared.outline.Outline.{Outline}
use Rattle.deck_reader.specs.declared.outline.ProcessLines.{ProcessLines}
use Rattle.deck_reader.specs.declared.outline.TerminalLines.{TerminalLines}
use Rattle.deck_grammar.specs.Grammar.{Block}
use Rattle.deck_grammar.specs.Spells.{name_in}

pub differ : (x y : List ℕ) → (x ≡ y → ⊥) → bytes_eq x y ≡ false
differ x y apart = false_from_ne_true (bytes_eq x y) (λ same. apart ((bytes_decides x y).0 same))

pub apart : (x y : List ℕ) → bytes_eq x y ≡ false → x ≡ y → ⊥
apart x y e same = true≢false (sym ((bytes_decides x y).1 same) ∙ e)

-- a name that none of some entries has, nor one more
module _ {T : Type 0} (one : Named T) (name : List ℕ) where
  none_before : (entries : List (Named T)) → has_name (entries ++ one ∷ []) name ≡ false
      → (has_name entries name ≡ false) × (bytes_eq one.0 name ≡ false)
  none_before [] e = (refl, (or_parts (bytes_eq one.0 name) false e).0)
  none_before (entry ∷ entries) e =
      let parts = or_parts (bytes_eq entry.0 name) (has_name (entries ++ one ∷ []) name) e in
      let later = none_before entries parts.1 in
      (or_from (bytes_eq entry.0 name) (has_name entries name) parts.0 later.0, later.1)

  none_after : (entries : List (Named T)) → has_name entries name ≡ false → bytes_eq one.0 name ≡ false
      → has_name (entries ++ one ∷ []) name ≡ false
  none_after [] e other = or_from (bytes_eq one.0 name) false other refl
  none_after (entry ∷ entries) e other =
      let parts = or_parts (bytes_eq entry.0 name) (has_name entries name) e in
      or_from (bytes_eq entry.0 name) (has_name (entries ++ one ∷ []) name) parts.0 (none_after entries parts.1 other)

-- no process and no terminal has the name
abbrev pub IsNew : Outline → List ℕ → Type 0
IsNew outline name = (has_name outline.processes name ≡ false) × (has_name outline.terminals name ≡ false)

pub new_is : (outline : Outline) (name : List ℕ) → IsNew outline name → not (is_new outline name) ≡ false
new_is outline name new = λ i. not (not (new.0 i) && not (new.1 i))

-- the names of all these blocks are new
abbrev pub AreNew : Outline → List Block → Type 0
AreNew outline [] = Unit {0}
AreNew outline (block ∷ blocks) = IsNew outline (name_in block) × AreNew outline blocks

none_among : (x y : List ℕ) (ys : List (List ℕ)) → bytes_eq x y ≡ false → (IsAmong x ys → ⊥) → IsAmong x (y ∷ ys) → ⊥
none_among x y ys other none (inl same) = apart x y other same
none_among x y ys other none (inr later) = none later

-- what is new after one more process was new before it, and has another name
pub new_before_process : (outline : Outline) (process : Named ProcessLines) (blocks : List Block)
    → AreNew (with_process outline process) blocks
    → AreNew outline blocks × (IsAmong process.0 (map name_in blocks) → ⊥)
new_before_process outline process [] new = (tt, λ among. among)
new_before_process outline process (block ∷ blocks) new =
    let first = none_before process (name_in block) outline.processes new.0.0 in
    let later = new_before_process outline process blocks new.1 in
    (((first.0, new.0.1), later.0), none_among process.0 (name_in block) (map name_in blocks) first.1 later.1)

pub new_after_process : (outline : Outline) (process : Named ProcessLines) (blocks : List Block)
    → AreNew outline blocks → (IsAmong process.0 (map name_in blocks) → ⊥)
    → AreNew (with_process outline process) blocks
new_after_process outline process [] new none = tt
new_after_process outline process (block ∷ blocks) new none = (
  (
    none_after process (name_in block) outline.processes new.0.0
        (differ process.0 (name_in block) (λ same. none (inl same))),
    new.0.1,
  ),
  new_after_process outline process blocks new.1 (λ among. none (inr among)),
)

-- and so with one more terminal
pub new_before_terminal : (outline : Outline) (name : List ℕ) (terminal : TerminalLines) (blocks : List Block)
    → AreNew (with_terminal outline name terminal) blocks
    → AreNew outline blocks × (IsAmong name (map name_in blocks) → ⊥)
new_before_terminal outline name terminal [] new = (tt, λ among. among)
new_before_terminal outline name terminal (block ∷ blocks) new =
    let first = none_before (name, terminal) (name_in block) outline.terminals new.0.1 in
    let later = new_before_terminal outline name terminal blocks new.1 in
    (((new.0.0, first.0), later.0), none_among name (name_in block) (map name_in blocks) first.1 later.1)

pub new_after_terminal : (outline : Outline) (name : List ℕ) (terminal : TerminalLines) (blocks : List Block)
    → AreNew outline blocks → (IsAmong name (map name_in blocks) → ⊥)
    → AreNew (with_terminal outline name terminal) blocks
new_after_terminal outline name terminal [] new none = tt
new_after_terminal outline name terminal (block ∷ blocks) new none = (
  (
    new.0.0,
    none_after (name, terminal) (name_in block) outline.terminals new.0.1
        (differ name (name_in block) (λ same. none (inl same))),
  ),
  new_after_terminal outline name terminal blocks new.1 (λ among. none (inr among)),
)
