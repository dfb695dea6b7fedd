-- What stands in the tables of a site.
use Rattle.std.proofs.Common.{◌≡◌, ℕ, zero, suc, ◌+◌, List, [], ◌∷◌, Option, Some, None, slice_get, refl, ap, sym, ◌∙◌}
use Rattle.std.proofs.Common.{arith}
use Rattle.std.specs.Option.{option_map, option_flatten}
use Rattle.tal_tree.specs.declared.program.FileUse.{FileUse}
use Rattle.tal_tree.specs.declared.site.Site.{Site}
use Rattle.tal_tree.specs.declared.site.ProcessSpec.{ProcessSpec}
use Rattle.tal_tree.specs.declared.site.TerminalSpec.{TerminalSpec}
use Rattle.tal_tree.specs.declared.site.Who.TheVariants as who
use Rattle.plain_semantics.specs.Openers.{files_of, file_of, server_of_file, opener_on, opener_of}
use Rattle.plain_machine.specs.Wiring.{file_row, file_rows, terminal_row, found_in, found_file}

-- a value where something is there
abbrev where_there : {A B : Type 0} → Option A → Option B → Option B
where_there None b = None
where_there (Some a) b = b

row-at : (site : Site) (process n : ℕ) (files : List FileUse) (f : ℕ)
    → option_flatten (slice_get (file_row site process n files) f)
    ≡ where_there (slice_get files f) (opener_of site (who.File process (n + f)))
row-at site process n [] f = refl
row-at site process n (file ∷ files) zero =
    let e : n ≡ n + 0 = omega arith in ap (λ k. opener_of site (who.File process k)) e
row-at site process n (file ∷ files) (suc f) =
    let e : (n + 1) + f ≡ n + suc f = omega arith in
    row-at site process (n + 1) files f ∙ ap
    (λ k. where_there (slice_get files f) (opener_of site (who.File process k))) e

rows-at : (site : Site) (n : ℕ) (specs : List ProcessSpec) (p : ℕ)
    → slice_get (file_rows site n specs) p ≡ option_map (λ spec. file_row site (n + p) 0 (files_of spec.what))
    (slice_get specs p)
rows-at site n [] p = refl
rows-at site n (spec ∷ specs) zero =
    let e : n ≡ n + 0 = omega arith in ap (λ k. Some (file_row site k 0 (files_of spec.what))) e
rows-at site n (spec ∷ specs) (suc p) =
    let e : (n + 1) + p ≡ n + suc p = omega arith in
    rows-at site (n + 1) specs p ∙ ap (λ k.
    option_map (λ spec. file_row site k 0 (files_of spec.what)) (slice_get specs p)) e

used-at : (site : Site) (p f : ℕ) (spec : ProcessSpec) (used : Option FileUse) → slice_get site.processes p ≡ Some spec
    → slice_get (files_of spec.what) f ≡ used
    → where_there used (opener_of site (who.File p f)) ≡ opener_of site (who.File p f)
used-at site p f spec None there gone =
    ap (λ used. opener_on site (who.File p f) (server_of_file site used)) (sym (ap (λ o. file_of o f) there ∙ gone))
used-at site p f spec (Some used) there found = refl

spec-at : (site : Site) (p f : ℕ) (spec : Option ProcessSpec) → slice_get site.processes p ≡ spec
    → found_in (option_map (λ spec. file_row site (0 + p) 0 (files_of spec.what)) spec) f
    ≡ opener_of site (who.File p f)
spec-at site p f None gone = ap (λ o. opener_on site (who.File p f) (server_of_file site (file_of o f))) (sym gone)
spec-at site p f (Some spec) there =
    let e : 0 + p ≡ p = omega arith in
    let g : 0 + f ≡ f = omega arith in
    row-at site (0 + p) 0 (files_of spec.what) f
    ∙ ap (λ k. where_there (slice_get (files_of spec.what) f) (opener_of site (who.File k (0 + f)))) e
    ∙ ap (λ k. where_there (slice_get (files_of spec.what) f) (opener_of site (who.File p k))) g
    ∙ used-at site p f spec (slice_get (files_of spec.what) f) there refl

-- the table of files has what it is to have
pub file-found : (site : Site) (p f : ℕ)
    → found_file (file_rows site 0 site.processes) p f ≡ opener_of site (who.File p f)
file-found site p f =
    ap (λ row. found_in row f) (rows-at site 0 site.processes p) ∙ spec-at site p f (slice_get site.processes p) refl

terminals-at : (site : Site) (n : ℕ) (terminals : List TerminalSpec) (t : ℕ)
    → option_flatten (slice_get (terminal_row site n terminals) t)
    ≡ where_there (slice_get terminals t) (opener_of site (who.Terminal (n + t)))
terminals-at site n [] t = refl
terminals-at site n (terminal ∷ terminals) zero =
    let e : n ≡ n + 0 = omega arith in ap (λ k. opener_of site (who.Terminal k)) e
terminals-at site n (terminal ∷ terminals) (suc t) =
    let e : (n + 1) + t ≡ n + suc t = omega arith in
    terminals-at site (n + 1) terminals t ∙ ap
    (λ k. where_there (slice_get terminals t) (opener_of site (who.Terminal k))) e

named-at : (site : Site) (t : ℕ) (spec : Option TerminalSpec) → slice_get site.terminals t ≡ spec
    → where_there spec (opener_of site (who.Terminal t)) ≡ opener_of site (who.Terminal t)
named-at site t None gone = ap (λ o. opener_on site (who.Terminal t) (option_map (λ spec. spec.target) o)) (sym gone)
named-at site t (Some spec) there = refl

-- the table of terminals has what it is to have
pub terminal-found : (site : Site) (t : ℕ)
    → option_flatten (slice_get (terminal_row site 0 site.terminals) t) ≡ opener_of site (who.Terminal t)
terminal-found site t =
    let e : 0 + t ≡ t = omega arith in
    terminals-at site 0 site.terminals t
    ∙ ap (λ k. where_there (slice_get site.terminals t) (opener_of site (who.Terminal k))) e
    ∙ named-at site t (slice_get site.terminals t) refl
