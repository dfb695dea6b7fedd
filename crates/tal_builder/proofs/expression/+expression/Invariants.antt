use Rattle.std.proofs.Common.{◌≡◌, ◌+◌, ◌*◌, ◌-◌, length}
use Rattle.tal_syntax.specs.Grammar as g
use Rattle.tal_syntax.specs.Seen.{link_ands, link_factors, link_ors, link_terms}
use Rattle.tal_builder.specs.PlainTokens.{plain_of}
use Rattle.tal_builder.specs.declared.plain_token.PlainToken.TheVariants as plain
use Rattle.tal_builder.specs.First.{scale_of, sign_of}
use Rattle.tal_builder.specs.Parse.{rest_by, ands_by, both_at, factor_at, factors_by, neg_at, ors_by, product_at}
use Rattle.tal_builder.specs.Parse.{terms_by}
use Rattle.tal_builder.proofs.Turns.{onto}
use Rattle.tal_builder.proofs.expression.+expression.Given as goal

abbrev pub decreases-expr : goal.decreases-expr
decreases-expr l = 16 * l.room + 14

abbrev pub decreases-more_boths : goal.decreases-more_boths
decreases-more_boths l = 16 * l.room + 13

abbrev pub decreases-both : goal.decreases-both
decreases-both l = 16 * l.room + 12

abbrev pub decreases-more_negs : goal.decreases-more_negs
decreases-more_negs l = 16 * l.room + 11

abbrev pub decreases-neg : goal.decreases-neg
decreases-neg l = 16 * l.room + 10

abbrev pub decreases-relation : goal.decreases-relation
decreases-relation l = 16 * l.room + 9

abbrev pub decreases-compared : goal.decreases-compared
decreases-compared l = 16 * l.room + 8

abbrev pub decreases-sum : goal.decreases-sum
decreases-sum l = 16 * l.room + 7

abbrev pub decreases-more_terms : goal.decreases-more_terms
decreases-more_terms l = 16 * l.room + 6

abbrev pub decreases-product : goal.decreases-product
decreases-product l = 16 * l.room + 5

abbrev pub decreases-more_factors : goal.decreases-more_factors
decreases-more_factors l = 16 * l.room + 4

abbrev pub decreases-factor : goal.decreases-factor
decreases-factor l = 16 * l.room + 3

abbrev pub decreases-parens : goal.decreases-parens
decreases-parens l = 16 * l.room + 1

abbrev pub decreases-negative : goal.decreases-negative
decreases-negative l = 16 * l.room + 1

abbrev pub decreases-negation : goal.decreases-negation
decreases-negation l = 16 * l.room + 1

abbrev pub decreases-spot : goal.decreases-spot
decreases-spot l = 16 * l.room + 2

abbrev pub decreases-index : goal.decreases-index
decreases-index l = 16 * l.room + 1

abbrev pub decreases-expr_within : goal.decreases-expr_within
decreases-expr_within l = 16 * l.room

abbrev pub decreases-neg_within : goal.decreases-neg_within
decreases-neg_within l = 16 * l.room

abbrev pub decreases-factor_within : goal.decreases-factor_within
decreases-factor_within l = 16 * l.room

-- the links so far and those of the tokens that are left are the whole chain
abbrev pub invariant-more_boths-loop-turn : goal.invariant-more_boths-loop-turn
invariant-more_boths-loop-turn l = onto link_ors l.all
    (rest_by g.no_ors g.more_ors (plain_of plain.Or) (both_at l.room) (length l.tokens - l._turn) l.rest)
    ≡ ors_by (both_at l.room) l.tokens

abbrev pub invariant-more_negs-loop-turn : goal.invariant-more_negs-loop-turn
invariant-more_negs-loop-turn l = onto link_ands l.all
    (rest_by g.no_ands g.more_ands (plain_of plain.And) (neg_at l.room) (length l.tokens - l._turn) l.rest)
    ≡ ands_by (neg_at l.room) l.tokens

abbrev pub invariant-more_terms-loop-turn : goal.invariant-more_terms-loop-turn
invariant-more_terms-loop-turn l = onto link_terms l.all
    (rest_by g.no_terms g.more_terms sign_of (product_at l.room) (length l.tokens - l._turn) l.rest)
    ≡ terms_by (product_at l.room) l.tokens

abbrev pub invariant-more_factors-loop-turn : goal.invariant-more_factors-loop-turn
invariant-more_factors-loop-turn l = onto link_factors l.all
    (rest_by g.no_factors g.more_factors scale_of (factor_at l.room) (length l.tokens - l._turn) l.rest)
    ≡ factors_by (factor_at l.room) l.tokens
