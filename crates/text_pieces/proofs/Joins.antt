-- Texts that are put together piece by piece.
use Rattle.std.proofs.Common.{◌≡◌, ℕ, List, ◌++◌, ap, ◌∙◌, append_assoc, OnOk}
use Rattle.std.proofs.lemmas.Result.{on_ok_weaker}
use Rattle.std.specs.Prelude.{Result}

behind : (t a b u v : List ℕ) → u ≡ t ++ a → v ≡ u ++ b → v ≡ t ++ (a ++ b)
behind t a b u v first last = last ∙ ap (λ (x : List ℕ). x ++ b) first ∙ append_assoc t a b

pub put_two : {T E : Type 0} (t a b : List ℕ) {u : List ℕ} (v : List ℕ) (result : Result T E)
    → u ≡ t ++ a → OnOk result (v ≡ u ++ b) → OnOk result (v ≡ t ++ (a ++ b))
put_two t a b {u} v result first last = on_ok_weaker result (λ (is : v ≡ u ++ b). behind t a b u v first is) last

pub put_three : {T E : Type 0} (t a b c : List ℕ) {u v : List ℕ} (w : List ℕ) (result : Result T E)
    → u ≡ t ++ a → v ≡ u ++ b → OnOk result (w ≡ v ++ c) → OnOk result (w ≡ t ++ ((a ++ b) ++ c))
put_three t a b c {u} {v} w result first second last =
    put_two t (a ++ b) c w result (behind t a b u v first second) last

pub put_four : {T E : Type 0} (t a b c d : List ℕ) {u v w : List ℕ} (x : List ℕ) (result : Result T E)
    → u ≡ t ++ a → v ≡ u ++ b → w ≡ v ++ c → OnOk result (x ≡ w ++ d)
    → OnOk result (x ≡ t ++ (((a ++ b) ++ c) ++ d))
put_four t a b c d {u} {v} {w} x result first second third last =
    put_three t (a ++ b) c d x result (behind t a b u v first second) third last

pub put_five : {T E : Type 0} (t a b c d e : List ℕ) {u v w x : List ℕ} (y : List ℕ) (result : Result T E)
    → u ≡ t ++ a → v ≡ u ++ b → w ≡ v ++ c → x ≡ w ++ d → OnOk result (y ≡ x ++ e)
    → OnOk result (y ≡ t ++ ((((a ++ b) ++ c) ++ d) ++ e))
put_five t a b c d e {u} {v} {w} {x} y result first second third fourth last =
    put_four t (a ++ b) c d e y result (behind t a b u v first second) third fourth last
