-- Sites without mirrored discs: of their runs a report tells nothing of drives.
use Rattle.std.specs.Prelude.{◌≡◌, Bool, false, List, [], ◌∷◌}
use Rattle.tal_tree.specs.declared.site.Kind.{Kind}
use Rattle.tal_tree.specs.declared.site.Kind.TheVariants as kind
use Rattle.tal_tree.specs.declared.site.ProcessSpec.{ProcessSpec}

-- whether this is a mirrored disc
abbrev pub is_mirrored : Kind → Bool
is_mirrored (kind.Disc sectors mirrored) = mirrored
is_mirrored (kind.Pair program) = false

-- none of these processes is one
abbrev pub AreUnmirrored : List ProcessSpec → Type 0
AreUnmirrored [] = Unit {0}
AreUnmirrored (spec ∷ specs) = (is_mirrored spec.what ≡ false) × AreUnmirrored specs
