-- Sites that meet the premises, or don't.
use Rattle.std.specs.Prelude.{ℕ, pos, false, [], ◌∷◌, replicate}
use Rattle.tal_tree.specs.declared.site.Kind.TheVariants as kind
use Rattle.tal_tree.specs.declared.site.Site.{Site}

-- a disc that a terminal asks once, with so many words
abbrev pub asked_with : ℕ → Site
asked_with words = record {
  processors = 2;
  processes = record { name = 36 ∷ 68 ∷ []; primary = 0; backup = 1; what = kind.Disc 4 false } ∷ [];
  terminals = record { name = 36 ∷ 84 ∷ []; target = 0; requests = replicate words (pos 1) ∷ [] } ∷ [];
}
