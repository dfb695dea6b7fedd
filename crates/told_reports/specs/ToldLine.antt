-- A line that tells what it was written for.
use Rattle.std.specs.Prelude.{◌≡◌, ◌++◌, ◌∷◌, ◌==◌, ℕ, false, List, [], Some}
use Rattle.std.specs.List.{list_any}
use Rattle.report_reader.specs.Telling.{told_by}
use Rattle.report_reader.specs.declared.told.Told.{Told}
use Rattle.tal_tree.specs.declared.site.Site.{Site}

-- it is a text with a line feed at its end and nowhere else, and the text tells this
pub record IsToldBy (site : Site) (written : List ℕ) (one : Told) : Type 0 where
  pub line : List ℕ
  pub ended : written ≡ line ++ (10 ∷ [])
  pub whole : list_any (λ c. c == 10) line ≡ false
  pub tells : told_by site line ≡ Some one
