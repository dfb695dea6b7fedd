-- A number below 65,536 read as a word is its wrap.
use Rattle.std.proofs.Common.{arith, ◌≡◌, ◌<◌, ℕ, refl, ap, sym, ◌∙◌, to_z, of_z}
use Rattle.std.proofs.lemmas.Int.{to_z-of_z}
use Rattle.std.specs.Prelude.{pos}
use Rattle.std.specs.Int.{w16, int_wrap}
use Rattle.tal_tree.specs.gd_words.specs.Arithmetic.{wrap}
use Rattle.tal_tokens.proofs.number.numbered.Goals as goal

word_of : (v : ℕ) → v < 65536 → wrap (pos v) ≡ to_z w16 v
unfolding int_wrap
word_of v small = ap (to_z w16) (omega arith)

pub returns-in-Some : goal.returns-in-Some
returns-in-Some c =
    let kept : to_z w16 (of_z w16 c.cast_signed.result) ≡ c.cast_signed.result =
    to_z-of_z w16 c.cast_signed.result (record { sfits = c.cast_signed.type_inv }) in
    let word : c.cast_signed.result ≡ wrap (pos c.in-Some.value) =
    c.cast_signed.ensures ∙ sym (word_of c.in-Some.value (c.requires.small c.in-Some.value c.in-Some.is)) in
    rw (kept, c.at.ensures, c.in-Some.is, word) refl
