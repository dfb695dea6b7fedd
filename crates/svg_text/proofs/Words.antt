-- Words are well formed whose signs are escaped.
use Rattle.std.proofs.Common.{◌≡◌, ℕ, ◌==◌, Bool, true, false, if◌then◌else◌, List, [], ◌∷◌, refl}
use Rattle.svg_text.specs.Escapes.{escaped, escaped_text, named}
use Rattle.svg_text.specs.Xml.{AreWords, no_words, after_piece, IsPiece, itself, quote, ampersand, less, greater}
use Rattle.svg_text.specs.Xml.{stands_for_itself}

one_or_other : (b : Bool) (first second : List ℕ) → IsPiece first → IsPiece second
    → IsPiece (if b then first else second)
one_or_other true first second one other = one
one_or_other false first second one other = other

named_piece : (c : ℕ) → IsPiece (named c)
named_piece c =
    one_or_other (c == 34) _ _ quote
    (one_or_other (c == 38) _ _ ampersand
    (one_or_other (c == 60) _ _ less (one_or_other (c == 62) _ _ greater (itself 63 refl))))

escaped_as : (c : ℕ) (b : Bool) → stands_for_itself c ≡ b → IsPiece (if b then c ∷ [] else named c)
escaped_as c true is = itself c is
escaped_as c false is = named_piece c

pub escaped_words : (words : List ℕ) → AreWords (escaped_text words)
escaped_words [] = no_words
escaped_words (c ∷ rest) =
    after_piece {piece = escaped c} {rest = escaped_text rest} (escaped_as c (stands_for_itself c) refl)
    (escaped_words rest)
