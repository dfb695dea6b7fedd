-- A process more that can be loaded.
use Rattle.std.proofs.Common.{List, [], ◌∷◌, ◌++◌}
use Rattle.std.specs.List.{All}
use Rattle.std.proofs.lemmas.List.Elements.{All-cons, All-head, All-nil, All-tail}

pub all-push : {A : Type 0} (P : A → Type 0) (all : List A) (one : A) → All P all → P one → All P (all ++ one ∷ [])
all-push P [] one all is = All-cons P one [] is (All-nil P)
all-push P (first ∷ rest) one all is =
    All-cons P first (rest ++ one ∷ []) (All-head P first rest all) (all-push P rest one (All-tail P first rest all) is)
