-- What a built list stands for: its links one before the other.
use Rattle.std.specs.Prelude.{List, [], ◌∷◌}

-- the links of a chain before what follows them
abbrev pub chained : {T R : Type 0} → (T → R → R) → List T → R → R
chained link [] rest = rest
chained link (t ∷ ts) rest = link t (chained link ts rest)
