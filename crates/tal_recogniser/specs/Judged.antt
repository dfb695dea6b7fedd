-- How a list of tokens is judged.
use Rattle.std.specs.Prelude.{ℕ, Bool, true, false, List, ◌≡◌, Option, Some, None}
use Rattle.tal_tokens.specs.declared.token.Token.{Token}
use Rattle.tal_syntax.specs.Expected.{IsWithin, IsUnexpected, IsTooDeep, IsUnfinished}
use Rattle.tal_recogniser.specs.ExpressionTable.{Stack}
use Rattle.tal_recogniser.specs.declared.judgement.Judgement.{Judgement}
use Rattle.tal_recogniser.specs.declared.judgement.Judgement.TheVariants as judgement
use Rattle.tal_tokens.specs.gd_words.specs.declared.limits.TheConstants.{MOST_LEVELS}

abbrev pub Judged : List Token → Judgement → Type 0
Judged ks judgement.Fine = IsWithin MOST_LEVELS ks
Judged ks judgement.Unfinished = IsUnfinished MOST_LEVELS ks
Judged ks (judgement.Unexpected k) = IsUnexpected MOST_LEVELS ks k
Judged ks (judgement.TooDeep k) = IsTooDeep MOST_LEVELS ks k

-- whether a token is taken, and what is to come if it is
abbrev pub Fed : Bool → Stack → Option Stack → Type 0
Fed true ss found = found ≡ Some ss
Fed false ss found = found ≡ None
