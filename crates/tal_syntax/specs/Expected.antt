-- Which token no text has where it stands, and which one is the first that stands too deep.
use Rattle.std.specs.Prelude.{ℕ, ◌+◌, ◌<◌, ◌≤◌, ◌≡◌, List, [], ◌∷◌, ◌++◌, length, take, get_or}
use Rattle.tal_tokens.specs.declared.token.At.{At}
use Rattle.tal_tokens.specs.declared.token.Token.{Token}
use Rattle.tal_tokens.specs.declared.token.Token.TheVariants as tok
use Rattle.tal_syntax.specs.Grammar as g
use Rattle.tal_syntax.specs.Nesting.{nest_text}

-- none of these levels is above m
abbrev pub AllAtMost : ℕ → List ℕ → Type 0
AllAtMost m [] = Unit {0}
AllAtMost m (l ∷ ls) = (l ≤ m) × AllAtMost m ls

-- the tokens are a text of the grammar
abbrev pub IsGrammar : List Token → Type 0
IsGrammar ks = (t : g.Text) × g.IsText t × (g.of_text t ≡ ks)

-- a text of the grammar begins with the tokens
abbrev pub Viable : List Token → Type 0
Viable ks = (t : g.Text) × (more : List Token) × g.IsText t × (g.of_text t ≡ ks ++ more)

-- the tokens are a text in which none of them stands deeper than m levels
abbrev pub IsWithin : ℕ → List Token → Type 0
IsWithin m ks = (t : g.Text) × g.IsText t × (g.of_text t ≡ ks) × AllAtMost m (nest_text t)

-- a text begins with the tokens, and there none of them stands deeper than m levels
abbrev pub Begins : ℕ → List Token → Type 0
Begins m ks = (t : g.Text) × (more : List Token) × g.IsText t × (g.of_text t ≡ ks ++ more)
    × AllAtMost m (take (length ks) (nest_text t))

-- token k is the first after which no text goes on, and none before it stands too deep
pub record IsUnexpected (m : ℕ) (ks : List Token) (k : ℕ) : Type 0 where
  pub there : k < length ks
  pub before : Begins m (take k ks)
  pub after : Viable (take (k + 1) ks) → ⊥

-- token k is the first that stands deeper than m levels, and a text goes on after it
pub data IsTooDeep (m : ℕ) (ks : List Token) (k : ℕ) : Type 0 where
  too_deep : (t : g.Text) (more : List Token) → k < length ks → g.IsText t → g.of_text t ≡ take (k + 1) ks ++ more
      → AllAtMost m (take k (nest_text t)) → m < get_or (nest_text t) k 0 → IsTooDeep m ks k

-- a text begins with the tokens within m levels, and its end isn't among them
pub record IsUnfinished (m : ℕ) (ks : List Token) : Type 0 where
  pub begins : Begins m ks
  pub endless : (front : List Token) (at : At) → ks ≡ front ++ tok.Finish at ∷ [] → ⊥
