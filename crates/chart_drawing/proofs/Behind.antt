-- Shapes that are put one behind the other.
use Rattle.std.proofs.Common.{◌≡◌, List, ◌++◌, ap, ◌∙◌, append_assoc, OnOk}
use Rattle.std.proofs.lemmas.Result.{on_ok_weaker}
use Rattle.std.specs.Prelude.{Result}

behind : {A : Type 0} (t a b u v : List A) → u ≡ t ++ a → v ≡ u ++ b → v ≡ t ++ (a ++ b)
behind {A} t a b u v first last = last ∙ ap (λ (x : List A). x ++ b) first ∙ append_assoc t a b

pub put_two : {A T E : Type 0} (t a b : List A) {u : List A} (v : List A) (result : Result T E)
    → u ≡ t ++ a → OnOk result (v ≡ u ++ b) → OnOk result (v ≡ t ++ (a ++ b))
put_two t a b {u} v result first last = on_ok_weaker result (λ (is : v ≡ u ++ b). behind t a b u v first is) last

pub put_three : {A T E : Type 0} (t a b c : List A) {u v : List A} (w : List A) (result : Result T E)
    → u ≡ t ++ a → v ≡ u ++ b → OnOk result (w ≡ v ++ c) → OnOk result (w ≡ t ++ (a ++ (b ++ c)))
put_three t a b c {u} {v} w result first second last =
    put_two t a (b ++ c) w result first (put_two u b c w result second last)

pub put_five : {A T E : Type 0} (t a b c d e : List A) {u v w x : List A} (y : List A) (result : Result T E)
    → u ≡ t ++ a → v ≡ u ++ b → w ≡ v ++ c → x ≡ w ++ d → OnOk result (y ≡ x ++ e)
    → OnOk result (y ≡ t ++ (a ++ (b ++ (c ++ (d ++ e)))))
put_five t a b c d e {u} {v} {w} {x} y result first second third fourth last =
    put_three t a b (c ++ (d ++ e)) y result first second (put_three v c d e y result third fourth last)
