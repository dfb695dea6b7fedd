-- Over -1 the quotient is the wrapped negative.
use Rattle.std.proofs.Common.{◌≡◌, ap, ◌∙◌, sym, arith}
use Rattle.std.proofs.Math.Nat.{div-one}
use Rattle.std.proofs.lemmas.Int.{wrapping_neg_is, to_z-of_z, ints}
use Rattle.std.specs.Prelude.{ℤ, pos, negsuc, neg_ℤ, zero, int_div, Some}
use Rattle.std.specs.Int.{w16, int_wrapping_neg}
use Rattle.gd_words.specs.Arithmetic.{quotient, wrap}
use Rattle.gd_words.proofs.arithmetic.div_trunc.Goals as goal

over_minus_one : (a : ℤ) → int_div a (negsuc zero) ≡ neg_ℤ a
over_minus_one (pos n) = ap (λ k. neg_ℤ (pos k)) (div-one n)
over_minus_one (negsuc n) = ap pos (div-one _)

pub returns-then-b-eqminus1 : goal.returns-then-b-eqminus1
returns-then-b-eqminus1 c =
    let divisor : c.args.b ≡ negsuc zero = omega (arith, ints) in
    let negative : c.wrapping_neg.result ≡ wrap (neg_ℤ c.args.a) =
    c.wrapping_neg.ensures ∙ ap (int_wrapping_neg w16) (to_z-of_z w16 c.args.a c.ranges.a)
    ∙ wrapping_neg_is w16 c.args.a c.ranges.a in
    ap Some (to_z-of_z w16 c.wrapping_neg.result (record { sfits = c.wrapping_neg.type_inv }) ∙ negative
    ∙ ap wrap (sym (over_minus_one c.args.a)))
    ∙ ap (quotient c.args.a) (sym divisor)
