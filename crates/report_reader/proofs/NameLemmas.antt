-- Names that stand one after the other, and the openers of each process.
use Rattle.std.proofs.Common.{◌≡◌, ℕ, zero, suc, ◌+◌, ◌<◌, ◌≤◌, Bool, true, false, cond, ◌&&◌, nat_eq, nat_lt, List, []}
use Rattle.std.proofs.Common.{◌∷◌, ◌++◌, length, drop, drop-cons, add-one, get_or, append_assoc, Option, Some, None}
use Rattle.std.proofs.Common.{refl, sym, ap, ◌∙◌, arith}
use Rattle.std.specs.List.{All}
use Rattle.std.proofs.lemmas.List.Elements.{All-head, All-tail}
use Rattle.std.proofs.lemmas.Bool.{eqb-true, eq-eqb, ne_eqb, ltb-true, ltb-false, true≢false}
use Rattle.std.specs.Prelude.{slice_get}
use Rattle.std.specs.Option.{unwrap_or}
use Rattle.std.specs.Str.{bytes_eq}
use Rattle.tal_tree.specs.declared.site.OpenerSpec.{OpenerSpec}
use Rattle.tal_tree.specs.declared.site.ProcessSpec.{ProcessSpec}
use Rattle.tal_tree.specs.declared.site.Site.{Site}
use Rattle.plain_semantics.specs.Openers.{openers_by, openers_of}
use Rattle.report_reader.specs.Names.{AreOpeners, opener_lists}
use Rattle.report_reader.specs.Parts.{rest_after}

-- whether what follows the beginning of a name is this
abbrev pub ends_so : Option (List ℕ) → List ℕ → Bool
ends_so None rest = false
ends_so (Some left) rest = bytes_eq left rest

pub begins-and-ends : (name beginning rest : List ℕ)
    → bytes_eq name (beginning ++ rest) ≡ ends_so (rest_after beginning name) rest
begins-and-ends name [] rest = refl
begins-and-ends [] (p ∷ beginning) rest = refl
begins-and-ends (c ∷ name) (p ∷ beginning) rest = by (begins-and-ends name beginning rest) (nat_eq c p) refl
  where
    by : bytes_eq name (beginning ++ rest) ≡ ends_so (rest_after beginning name) rest → (b : Bool) → nat_eq c p ≡ b
        → (b && bytes_eq name (beginning ++ rest)) ≡ ends_so (cond (nat_eq p c) (rest_after beginning name) None) rest
    by later true same =
        later
        ∙ ap (λ (x : Bool). ends_so (cond x (rest_after beginning name) None) rest)
        (sym (eq-eqb p c (sym (eqb-true c p same))))
    by later false other = ap (λ (x : Bool). ends_so (cond x (rest_after beginning name) None) rest)
        (sym (ne_eqb p c (λ e. true≢false (sym (eq-eqb c p (sym e)) ∙ other))))

pub begins-otherwise : (name beginning rest : List ℕ) → None ≡ rest_after beginning name
    → false ≡ bytes_eq name (beginning ++ rest)
begins-otherwise name beginning rest none =
    ap (λ (o : Option (List ℕ)). ends_so o rest) none ∙ sym (begins-and-ends name beginning rest)

pub begins-with : (name beginning rest left : List ℕ) → Some left ≡ rest_after beginning name
    → bytes_eq left rest ≡ bytes_eq name (beginning ++ rest)
begins-with name beginning rest left found =
    ap (λ (o : Option (List ℕ)). ends_so o rest) found ∙ sym (begins-and-ends name beginning rest)

-- the openers of the process at a place among those from a number on
listed : (site : Site) (number place : ℕ) (specs : List ProcessSpec) → place < length specs
    → slice_get (opener_lists site number specs) place ≡ Some (openers_of site (number + place))
listed site number place [] there = absurd (omega arith)
listed site number zero (spec ∷ specs) there = ap (λ (n : ℕ). Some (openers_of site n)) (omega arith)
listed site number (suc place) (spec ∷ specs) there =
    listed site (number + 1) place specs (omega arith) ∙ ap (λ (n : ℕ). Some (openers_of site n)) (omega arith)

-- none past the last process
past : (site : Site) (number place : ℕ) (specs : List ProcessSpec) → length specs ≤ place
    → slice_get (opener_lists site number specs) place ≡ None
past site number place [] there = refl
past site number zero (spec ∷ specs) there = absurd (omega arith)
past site number (suc place) (spec ∷ specs) there = past site (number + 1) place specs (omega arith)

no-process : (place : ℕ) (specs : List ProcessSpec) → length specs ≤ place → slice_get specs place ≡ None
no-process place [] there = refl
no-process zero (spec ∷ specs) there = absurd (omega arith)
no-process (suc place) (spec ∷ specs) there = no-process place specs (omega arith)

each-opener : (site : Site) (place : ℕ)
    → unwrap_or (slice_get (opener_lists site 0 site.processes) place) [] ≡ openers_of site place
each-opener site place = by (nat_lt place (length site.processes)) refl
  where
    zero-more : 0 + place ≡ place
    zero-more = omega arith

    lists : List (List OpenerSpec)
    lists = opener_lists site 0 site.processes

    by : (b : Bool) → nat_lt place (length site.processes) ≡ b
        → unwrap_or (slice_get lists place) [] ≡ openers_of site place
    by true there =
        ap (λ (o : Option (List OpenerSpec)). unwrap_or o [])
        (listed site 0 place site.processes (ltb-true place (length site.processes) there))
        ∙ ap (openers_of site) zero-more
    by false gone =
        let far : length site.processes ≤ place = ltb-false place (length site.processes) gone in
        ap (λ (o : Option (List OpenerSpec)). unwrap_or o []) (past site 0 place site.processes far)
        ∙ ap (openers_by site place) (sym (no-process place site.processes far))

pub are-openers : (site : Site) (lists : List (List OpenerSpec)) → lists ≡ opener_lists site 0 site.processes
    → All (λ (list : List OpenerSpec). length list ≤ 144) lists
    → AreOpeners site lists
are-openers site lists same few = record {
  each = λ process. ap (λ (all : List (List OpenerSpec)). unwrap_or (slice_get all process) []) same
      ∙ each-opener site process;
  few = few;
}

-- each of few is
pub few-at : (lists : List (List OpenerSpec)) (place : ℕ) → All (λ (list : List OpenerSpec). length list ≤ 144) lists
    → length (unwrap_or (slice_get lists place) []) ≤ 144
few-at [] place few = omega arith
few-at (one ∷ lists) zero few = All-head (λ (list : List OpenerSpec). length list ≤ 144) one lists few
few-at (one ∷ lists) (suc place) few =
    few-at lists place (All-tail (λ (list : List OpenerSpec). length list ≤ 144) one lists few)

-- the openers of one process more
lists-more-at : (site : Site) (specs : List ProcessSpec) (lists : List (List OpenerSpec)) (one : List OpenerSpec)
    (number : ℕ) (d : ProcessSpec) → number < length specs
    → opener_lists site 0 specs ≡ lists ++ opener_lists site number (drop number specs) → one ≡ openers_of site number
    → opener_lists site 0 specs ≡ (lists ++ one ∷ []) ++ opener_lists site (number + 1) (drop (number + 1) specs)
lists-more-at site specs lists one number d within before is =
    before
    ∙ ap (λ (rest : List ProcessSpec). lists ++ opener_lists site number rest)
    (drop-cons specs number d within ∙ ap (λ (k : ℕ). get_or specs number d ∷ drop k specs) (sym (add-one number)))
    ∙ ap (λ (first : List OpenerSpec). lists ++ first ∷ opener_lists site (number + 1) (drop (number + 1) specs))
    (sym is)
    ∙ sym (append_assoc lists (one ∷ []) (opener_lists site (number + 1) (drop (number + 1) specs)))

pub lists-more : (site : Site) (specs : List ProcessSpec) (lists : List (List OpenerSpec)) (one : List OpenerSpec)
    (number : ℕ) → number < length specs
    → opener_lists site 0 specs ≡ lists ++ opener_lists site number (drop number specs) → one ≡ openers_of site number
    → opener_lists site 0 specs ≡ (lists ++ one ∷ []) ++ opener_lists site (number + 1) (drop (number + 1) specs)
lists-more site [] lists one number within before is = absurd (omega arith)
lists-more site (spec ∷ specs) lists one number within before is =
    lists-more-at site (spec ∷ specs) lists one number spec within before is
