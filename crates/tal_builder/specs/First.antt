-- The token with which tokens begin.
use Rattle.std.specs.Prelude.{ℕ, Bool, true, false, List, ◌∷◌, Option, Some, None}
use Rattle.tal_tokens.specs.declared.token.At.{At}
use Rattle.tal_tokens.specs.declared.token.Token.{Token}
use Rattle.tal_tokens.specs.declared.token.Token.TheVariants as tok
use Rattle.tal_syntax.specs.Grammar as g

-- a name, with its place
abbrev pub name_of : List Token → Option ((At × List ℕ) × List Token)
name_of (tok.Name at name ∷ ks) = Some ((at, name), ks)
name_of _ = None

-- a name directly before an opening parenthesis
abbrev pub called_of : List Token → Option (At × List ℕ × At × List Token)
called_of (tok.Name at name ∷ tok.Open start ∷ ks) = Some (at, name, start, ks)
called_of _ = None

abbrev pub rel_of : List Token → Option (g.Rel × List Token)
rel_of (tok.Equal at ∷ ks) = Some (g.equal at, ks)
rel_of (tok.Differs at ∷ ks) = Some (g.differs at, ks)
rel_of (tok.Less at ∷ ks) = Some (g.less at, ks)
rel_of (tok.AtMost at ∷ ks) = Some (g.at_most at, ks)
rel_of (tok.Greater at ∷ ks) = Some (g.greater at, ks)
rel_of (tok.AtLeast at ∷ ks) = Some (g.at_least at, ks)
rel_of _ = None

abbrev pub sign_of : List Token → Option (g.Sign × List Token)
sign_of (tok.Plus at ∷ ks) = Some (g.plus at, ks)
sign_of (tok.Minus at ∷ ks) = Some (g.dash at, ks)
sign_of _ = None

abbrev pub scale_of : List Token → Option (g.Scale × List Token)
scale_of (tok.Star at ∷ ks) = Some (g.times at, ks)
scale_of (tok.Slash at ∷ ks) = Some (g.over at, ks)
scale_of _ = None

-- which way a FOR counts
abbrev pub direction_of : List Token → Option (g.Direction × List Token)
direction_of (tok.To at ∷ ks) = Some (g.up at, ks)
direction_of (tok.DownTo at ∷ ks) = Some (g.down at, ks)
direction_of _ = None

-- a string
abbrev pub string_of : List Token → Option (g.Argument × List Token)
string_of (tok.Receive at ∷ ks) = Some (g.receive at, ks)
string_of (tok.Process at name ∷ ks) = Some (g.process at name, ks)
string_of (tok.Text at ∷ ks) = Some (g.quoted at, ks)
string_of _ = None

-- whether an expression begins here
abbrev pub is_value : List Token → Bool
is_value (tok.Not at ∷ ks) = true
is_value (tok.Minus at ∷ ks) = true
is_value (tok.Number at n ∷ ks) = true
is_value (tok.Name at name ∷ ks) = true
is_value (tok.Open at ∷ ks) = true
is_value _ = false

-- whether a statement that isn't empty begins here
abbrev pub is_begun : List Token → Bool
is_begun (tok.Begin at ∷ ks) = true
is_begun (tok.If at ∷ ks) = true
is_begun (tok.While at ∷ ks) = true
is_begun (tok.For at ∷ ks) = true
is_begun (tok.Do at ∷ ks) = true
is_begun (tok.Call at ∷ ks) = true
is_begun (tok.Return at ∷ ks) = true
is_begun (tok.Name at name ∷ ks) = true
is_begun _ = false

-- whether a line of globals begins here: after INT a name tells it from a procedure
abbrev pub is_line : List Token → Bool
is_line (tok.Literal at ∷ ks) = true
is_line (tok.Int at ∷ tok.Name place name ∷ ks) = true
is_line _ = false

-- whether a procedure begins here
abbrev pub is_heading : List Token → Bool
is_heading (tok.Int at ∷ ks) = true
is_heading (tok.Proc at ∷ ks) = true
is_heading _ = false

-- whether locals begin here
abbrev pub is_local : List Token → Bool
is_local (tok.Int at ∷ ks) = true
is_local _ = false
