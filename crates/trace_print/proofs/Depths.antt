-- The lines of depths one after the other.
use Rattle.std.proofs.Common.{◌≡◌, ℕ, suc, ◌+◌, ◌<◌, List, [], ◌∷◌, ◌++◌, length, take, drop, get_or, ap, sym, ◌∙◌}
use Rattle.std.proofs.Common.{append_assoc, append-nil, arith, length-take, take-append-drop}
use Rattle.std.proofs.lemmas.List.{take_more}
use Rattle.tal_tree.specs.declared.site.Site.{Site}
use Rattle.trace_print.specs.AdviceText.{depth_line, depth_lines}

module _ (site : Site) (process : ℕ) where
  depths-append : (start : ℕ) (xs ys : List ℕ) → depth_lines site process start (xs ++ ys)
      ≡ depth_lines site process start xs ++ depth_lines site process (start + length xs) ys
  depths-append start [] ys =
      ap (λ (n : ℕ). depth_lines site process n ys) (let same : start ≡ start + 0 = omega arith in same)
  depths-append start (x ∷ xs) ys =
      let same : (start + 1) + length xs ≡ start + suc (length xs) = omega arith in
      ap (λ (later : List ℕ). depth_line site process start x ++ later)
      (depths-append (start + 1) xs ys
      ∙ ap (λ (n : ℕ). depth_lines site process (start + 1) xs ++ depth_lines site process n ys) same)
      ∙ sym (append_assoc (depth_line site process start x) (depth_lines site process (start + 1) xs)
      (depth_lines site process (start + suc (length xs)) ys))

  -- those of one depth more
  pub depths-more : (xs : List ℕ) (i x : ℕ) → i < length xs → x ≡ get_or xs i x
      → depth_lines site process 0 (take (i + 1) xs)
      ≡ depth_lines site process 0 (take i xs) ++ depth_line site process i x
  depths-more xs i x inside is =
      let count : 0 + length (take i xs) ≡ i = omega (arith, length-take i xs) in
      ap (depth_lines site process 0) (take_more xs i x inside ∙ ap (λ (y : ℕ). take i xs ++ y ∷ []) (sym is))
      ∙ depths-append 0 (take i xs) (x ∷ [])
      ∙ ap (λ (n : ℕ). depth_lines site process 0 (take i xs) ++ depth_lines site process n (x ∷ [])) count
      ∙ ap (λ (own : List ℕ). depth_lines site process 0 (take i xs) ++ own)
      (append-nil (depth_line site process i x))

  -- those before a depth, its own, and those behind it
  pub depths-split : (xs : List ℕ) (i x : ℕ) → i < length xs → x ≡ get_or xs i x
      → depth_lines site process 0 xs
      ≡ (depth_lines site process 0 (take i xs) ++ depth_line site process i x)
      ++ depth_lines site process (i + 1) (drop (i + 1) xs)
  depths-split xs i x inside is =
      let count : 0 + length (take (i + 1) xs) ≡ i + 1 = omega (arith, length-take (i + 1) xs) in
      ap (depth_lines site process 0) (sym (take-append-drop (i + 1) xs))
      ∙ depths-append 0 (take (i + 1) xs) (drop (i + 1) xs)
      ∙ ap (λ (n : ℕ). depth_lines site process 0 (take (i + 1) xs) ++ depth_lines site process n (drop (i + 1) xs))
      count
      ∙ ap (λ (front : List ℕ). front ++ depth_lines site process (i + 1) (drop (i + 1) xs))
      (depths-more xs i x inside is)
