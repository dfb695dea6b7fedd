-- The printed names, parameters and locals of a procedure read back.
use Rattle.std.proofs.Common.{◌≡◌, ℕ, Bool, true, false, List, [], ◌∷◌, refl, ap, ◌∙◌}
use Rattle.tal_tokens.specs.declared.token.Token.{Token}
use Rattle.tal_tokens.specs.declared.token.Token.TheVariants as tok
use Rattle.tal_syntax.specs.Grammar as g
use Rattle.tal_syntax.specs.Expected.{AllAtMost}
use Rattle.tal_syntax.specs.Nesting.{nest_names, nest_parameters, nest_locals, nest_gives, nest_main}
use Rattle.tal_declarations.specs.Headings.{names_of, parameters_of, locals_of, does_give}
use Rattle.tal_rules.specs.Texts.{is_main_by}
use Rattle.tal_meaning.specs.Programs.{texts_of}
use Rattle.tal_pieces.specs.declared.piece.Keyword.TheVariants as word
use Rattle.tal_pieces.specs.declared.piece.Symbol.TheVariants as sign
use Rattle.tal_pieces.specs.declared.piece.Piece.{Piece}
use Rattle.tal_pieces.specs.declared.piece.Piece.TheVariants as piece
use Rattle.tal_pieces.specs.Cuts.{AreTokens}
use Rattle.tal_pieces.specs.Printed.Procedures.{word_if, more_names, parameters_pieces, locals_pieces}
use Rattle.tal_pieces.proofs.Values.Back.{first}
use Rattle.tal_pieces.proofs.Declarations.ItemsBack.{low_level}

-- the tokens begin with more names of a list
record NamesBack (names : List (List ℕ)) (ks : List Piece) (tokens : List Token) : Type 0 where
  syntax : g.Names
  rest : List Token
  front : tokens ≡ g.of_names syntax rest
  later : AreTokens ks rest
  texts : texts_of (names_of syntax) ≡ names
  shallow : (ls : List ℕ) → AllAtMost 33 ls → AllAtMost 33 (nest_names 0 syntax ls)

names_back : (names : List (List ℕ)) (ks : List Piece) (tokens : List Token) → AreTokens (more_names names ks) tokens
    → NamesBack names ks tokens
names_back [] ks tokens a =
    record { syntax = g.no_names; rest = tokens; front = refl; later = a; texts = refl; shallow = λ ls held. held }
names_back (name ∷ names) ks tokens a =
    let comma = first a in
    let f = first comma.later in
    let more = names_back names ks f.rest f.later in
    record {
      syntax = g.more_names comma.at f.at name more.syntax;
      rest = more.rest;
      front = comma.is ∙ ap (λ ts. tok.Comma comma.at ∷ ts) (f.is ∙ ap (λ ts. tok.Name f.at name ∷ ts) more.front);
      later = more.later;
      texts = ap (λ rest. name ∷ rest) more.texts;
      shallow = λ ls held. (low_level, (low_level, more.shallow ls held));
    }

-- the tokens begin with these parameters
pub record ParametersBack (names : List (List ℕ)) (ks : List Piece) (tokens : List Token) : Type 0 where
  pub syntax : g.Parameters
  pub rest : List Token
  pub front : tokens ≡ g.of_parameters syntax rest
  pub later : AreTokens ks rest
  pub texts : texts_of (parameters_of syntax) ≡ names
  pub shallow : (ls : List ℕ) → AllAtMost 33 ls → AllAtMost 33 (nest_parameters 0 syntax ls)

pub parameters_back : (names : List (List ℕ)) (ks : List Piece) (tokens : List Token)
    → AreTokens (parameters_pieces names ks) tokens → ParametersBack names ks tokens
parameters_back [] ks tokens a =
    record { syntax = g.no_parameters; rest = tokens; front = refl; later = a; texts = refl; shallow = λ ls held. held }
parameters_back (name ∷ names) ks tokens a =
    let start = first a in
    let f = first start.later in
    let more = names_back names (piece.Symbol sign.Close ∷ ks) f.rest f.later in
    let close = first more.later in
    record {
      syntax = g.parameters start.at f.at name more.syntax close.at;
      rest = close.rest;
      front =
          start.is ∙ ap (λ ts. tok.Open start.at ∷ ts) (f.is ∙ ap (λ ts. tok.Name f.at name ∷ ts)
          (more.front ∙ ap (g.of_names more.syntax) close.is));
      later = close.later;
      texts = ap (λ rest. name ∷ rest) more.texts;
      shallow = λ ls held. (low_level, (low_level, more.shallow (0 ∷ ls) (low_level, held)));
    }

-- the tokens begin with lines of these locals
pub record LocalsBack (names : List (List ℕ)) (ks : List Piece) (tokens : List Token) : Type 0 where
  pub syntax : g.Locals
  pub rest : List Token
  pub front : tokens ≡ g.of_locals syntax rest
  pub later : AreTokens ks rest
  pub texts : texts_of (locals_of syntax) ≡ names
  pub shallow : (ls : List ℕ) → AllAtMost 33 ls → AllAtMost 33 (nest_locals 0 syntax ls)

pub locals_back : (names : List (List ℕ)) (ks : List Piece) (tokens : List Token)
    → AreTokens (locals_pieces names ks) tokens → LocalsBack names ks tokens
locals_back [] ks tokens a =
    record { syntax = g.no_locals; rest = tokens; front = refl; later = a; texts = refl; shallow = λ ls held. held }
locals_back (name ∷ names) ks tokens a =
    let int = first a in
    let f = first int.later in
    let end = first f.later in
    let more = locals_back names ks end.rest end.later in
    record {
      syntax = g.more_locals (g.local int.at f.at name g.no_names end.at) more.syntax;
      rest = more.rest;
      front =
          int.is ∙ ap (λ ts. tok.Int int.at ∷ ts) (f.is ∙ ap (λ ts. tok.Name f.at name ∷ ts)
          (end.is ∙ ap (λ ts. tok.Semicolon end.at ∷ ts) more.front));
      later = more.later;
      texts = ap (λ rest. name ∷ rest) more.texts;
      shallow = λ ls held. (low_level, (low_level, (low_level, more.shallow ls held)));
    }

-- the tokens begin with INT, where a value is given
pub record GivesBack (gives : Bool) (ks : List Piece) (tokens : List Token) : Type 0 where
  pub syntax : g.Gives
  pub rest : List Token
  pub front : tokens ≡ g.of_gives syntax rest
  pub later : AreTokens ks rest
  pub same : does_give syntax ≡ gives
  pub shallow : (ls : List ℕ) → AllAtMost 33 ls → AllAtMost 33 (nest_gives 0 syntax ls)

pub gives_back : (gives : Bool) (ks : List Piece) (tokens : List Token) → AreTokens (word_if gives word.Int ks) tokens
    → GivesBack gives ks tokens
gives_back false ks tokens a =
    record { syntax = g.gives_nothing; rest = tokens; front = refl; later = a; same = refl; shallow = λ ls held. held }
gives_back true ks tokens a =
    let f = first a in
    record {
      syntax = g.gives_int f.at;
      rest = f.rest;
      front = f.is;
      later = f.later;
      same = refl;
      shallow = λ ls held. (low_level, held);
    }

-- the tokens begin with MAIN, where it is the main procedure
pub record MainBack (is_main : Bool) (ks : List Piece) (tokens : List Token) : Type 0 where
  pub syntax : g.Main
  pub rest : List Token
  pub front : tokens ≡ g.of_main syntax rest
  pub later : AreTokens ks rest
  pub same : is_main_by syntax ≡ is_main
  pub shallow : (ls : List ℕ) → AllAtMost 33 ls → AllAtMost 33 (nest_main 0 syntax ls)

pub main_back : (is_main : Bool) (ks : List Piece) (tokens : List Token)
    → AreTokens (word_if is_main word.Main ks) tokens → MainBack is_main ks tokens
main_back false ks tokens a =
    record { syntax = g.not_main; rest = tokens; front = refl; later = a; same = refl; shallow = λ ls held. held }
main_back true ks tokens a =
    let f = first a in
    record {
      syntax = g.is_main f.at;
      rest = f.rest;
      front = f.is;
      later = f.later;
      same = refl;
      shallow = λ ls held. (low_level, held);
    }
