-- A text that begins with a spelled piece begins with the piece's token.
use Rattle.std.proofs.Common.{◌≡◌, ℕ, Bool, true, false, not, ◌&&◌, ◌==◌, nat_le, List, [], ◌∷◌, ◌++◌, length, take}
use Rattle.std.proofs.Common.{refl, sym, ap, ◌∙◌, if◌then◌else◌}
use Rattle.std.specs.Prelude.{Some, None, codes, is_some}
use Rattle.std.specs.List.{list_all}
use Rattle.std.specs.Char.{is_ascii_digit}
use Rattle.std.proofs.lemmas.Bool.{and_parts, eqb-true, false_from_ne_true, true≢false, not-true}
use Rattle.gd_words.specs.Spelling.{is_ident_sign, is_ident, ident_of, upper}
use Rattle.tal_tokens.specs.declared.begun.Begun.{Begun}
use Rattle.tal_tokens.specs.declared.begun.Begun.TheVariants.{Gap, Whole}
use Rattle.tal_tokens.specs.declared.cursor.Cursor.{Cursor}
use Rattle.tal_tokens.specs.declared.token.At.{At}
use Rattle.tal_tokens.specs.declared.token.Token.{Token}
use Rattle.tal_tokens.specs.declared.token.Token.TheVariants as tok
use Rattle.tal_tokens.specs.Cursor.{at_front}
use Rattle.tal_tokens.specs.Lexeme.{begun_of, is_blank, comment_of, decimal_begun, named, name_begun, octal_begun}
use Rattle.tal_tokens.specs.Lexeme.{string_begun, symbol_begun, run_of, word_token}
use Rattle.tal_names.specs.declared.system.System.{System}
use Rattle.tal_names.specs.declared.system.System.TheVariants as system
use Rattle.tal_pieces.specs.declared.piece.Keyword.{Keyword}
use Rattle.tal_pieces.specs.declared.piece.Keyword.TheVariants as word
use Rattle.tal_pieces.specs.declared.piece.Piece.TheVariants as piece
use Rattle.tal_pieces.specs.Spelling.{keyword_text, system_text, ending_of}
use Rattle.tal_pieces.specs.Cuts.{keyword_token}
use Rattle.tal_pieces.proofs.Spelling.Follow.{heads, stops, parts}
use Rattle.tal_pieces.proofs.Spelling.Runs.{run_is, take_front}

-- the text begins with this token, which is all of `text`
abbrev pub BeginsWith : Cursor → List ℕ → List ℕ → (At → Token) → Type 0
BeginsWith here text rest token =
    begun_of here (text ++ rest) ≡ Whole (token (at_front here (length text))) (length text)

no_sign : (c : ℕ) → stops c ≡ true → not (is_ident_sign c) ≡ true
no_sign c h = (and_parts (not (is_ident_sign c)) (not (c == 61) && not (c == 62)) h).0

ends_word : (rest : List ℕ) → heads stops rest ≡ true → heads (λ c. not (is_ident_sign c)) rest ≡ true
ends_word [] h = refl
ends_word (c ∷ rest) h = no_sign c h

-- what a text begins with, by what its first byte is
abbrev pub by_first : Cursor → ℕ → List ℕ → Bool → Bool → Bool → Bool → Begun
by_first here c rest blank comment digit sign =
    if blank then Gap 1 else
    if comment then Gap (comment_of rest) else
    if digit then decimal_begun here (c ∷ rest) else
    if sign then name_begun here (c ∷ rest) else
    if c == 37 then octal_begun here rest else
    if c == 34 then string_begun here rest else
    symbol_begun here c rest

-- a word whose first sign is no digit
pub word_begun : (here : Cursor) (c : ℕ) (more rest : List ℕ) → is_blank c ≡ false → (c == 33) ≡ false
    → is_ascii_digit c ≡ false
    → list_all is_ident_sign (c ∷ more) ≡ true → ident_of (c ∷ more) ≡ Some (c ∷ more) → heads stops rest ≡ true
    → BeginsWith here (c ∷ more) rest (λ at. word_token at (c ∷ more))
word_begun here c more rest blank comment digit all kept ends =
    let sign : is_ident_sign c ≡ true = (and_parts (is_ident_sign c) (list_all is_ident_sign more) all).0 in
    let run : run_of is_ident_sign ((c ∷ more) ++ rest) ≡ length (c ∷ more) =
    run_is is_ident_sign (c ∷ more) rest all (ends_word rest ends) in
    let front : take (length (c ∷ more)) ((c ∷ more) ++ rest) ≡ c ∷ more = take_front (c ∷ more) rest in
    (λ i. by_first here c (more ++ rest) (blank i) (comment i) (digit i) (sign i))
    ∙ ap (λ n. named here n (ident_of (take n ((c ∷ more) ++ rest)))) run
    ∙ ap (λ w. named here (length (c ∷ more)) (ident_of w)) front
    ∙ ap (λ w. named here (length (c ∷ more)) w) kept

pub keyword_begun : (here : Cursor) (k : Keyword) (rest : List ℕ)
    → heads (parts (ending_of (piece.Keyword k))) rest ≡ true
    → BeginsWith here (keyword_text k) rest (λ at. keyword_token at k)
keyword_begun here word.And rest ends = word_begun here 65 (codes "ND") rest refl refl refl refl refl ends
keyword_begun here word.Begin rest ends = word_begun here 66 (codes "EGIN") rest refl refl refl refl refl ends
keyword_begun here word.By rest ends = word_begun here 66 (codes "Y") rest refl refl refl refl refl ends
keyword_begun here word.Call rest ends = word_begun here 67 (codes "ALL") rest refl refl refl refl refl ends
keyword_begun here word.Do rest ends = word_begun here 68 (codes "O") rest refl refl refl refl refl ends
keyword_begun here word.DownTo rest ends = word_begun here 68 (codes "OWNTO") rest refl refl refl refl refl ends
keyword_begun here word.Else rest ends = word_begun here 69 (codes "LSE") rest refl refl refl refl refl ends
keyword_begun here word.End rest ends = word_begun here 69 (codes "ND") rest refl refl refl refl refl ends
keyword_begun here word.For rest ends = word_begun here 70 (codes "OR") rest refl refl refl refl refl ends
keyword_begun here word.If rest ends = word_begun here 73 (codes "F") rest refl refl refl refl refl ends
keyword_begun here word.Int rest ends = word_begun here 73 (codes "NT") rest refl refl refl refl refl ends
keyword_begun here word.Main rest ends = word_begun here 77 (codes "AIN") rest refl refl refl refl refl ends
keyword_begun here word.Not rest ends = word_begun here 78 (codes "OT") rest refl refl refl refl refl ends
keyword_begun here word.Or rest ends = word_begun here 79 (codes "R") rest refl refl refl refl refl ends
keyword_begun here word.Proc rest ends = word_begun here 80 (codes "ROC") rest refl refl refl refl refl ends
keyword_begun here word.Return rest ends = word_begun here 82 (codes "ETURN") rest refl refl refl refl refl ends
keyword_begun here word.Then rest ends = word_begun here 84 (codes "HEN") rest refl refl refl refl refl ends
keyword_begun here word.To rest ends = word_begun here 84 (codes "O") rest refl refl refl refl refl ends
keyword_begun here word.Until rest ends = word_begun here 85 (codes "NTIL") rest refl refl refl refl refl ends
keyword_begun here word.While rest ends = word_begun here 87 (codes "HILE") rest refl refl refl refl refl ends

pub system_begun : (here : Cursor) (s : System) (rest : List ℕ) → heads stops rest ≡ true
    → BeginsWith here (system_text s) rest (λ at. tok.Name at (system_text s))
system_begun here system.CheckMonitor rest ends =
    word_begun here 67 (codes "HECKMONITOR") rest refl refl refl refl refl ends
system_begun here system.Checkpoint rest ends =
    word_begun here 67 (codes "HECKPOINT") rest refl refl refl refl refl ends
system_begun here system.Open rest ends = word_begun here 79 (codes "PEN") rest refl refl refl refl refl ends
system_begun here system.ReadUpdate rest ends =
    word_begun here 82 (codes "EADUPDATE") rest refl refl refl refl refl ends
system_begun here system.Reply rest ends = word_begun here 82 (codes "EPLY") rest refl refl refl refl refl ends
system_begun here system.Stop rest ends = word_begun here 83 (codes "TOP") rest refl refl refl refl refl ends
system_begun here system.WriteRead rest ends = word_begun here 87 (codes "RITEREAD") rest refl refl refl refl refl ends

pub spelled_so : (b : Bool) (x y : List ℕ) → (if b then Some x else None) ≡ Some y → b ≡ true
spelled_so true x y e = refl
spelled_so false x y e = ap is_some e

pub distinct : (c k : ℕ) → is_ident_sign c ≡ true → is_ident_sign k ≡ false → (c == k) ≡ false
distinct c k sign none =
    false_from_ne_true (c == k) (λ e. true≢false (sym sign ∙ ap is_ident_sign (eqb-true c k e) ∙ none))

pub no_blank : (c : ℕ) → is_ident_sign c ≡ true → is_blank c ≡ false
no_blank c sign = rw (distinct c 32 sign refl, distinct c 9 sign refl, distinct c 10 sign refl) refl

pub name_begun_is : (here : Cursor) (name rest : List ℕ) → ident_of name ≡ Some name
    → ((at : At) → word_token at name ≡ tok.Name at name) → heads stops rest ≡ true
    → BeginsWith here name rest (λ at. tok.Name at name)
name_begun_is here [] rest kept plain ends = absurd (true≢false (sym (ap is_some kept)))
name_begun_is here (c ∷ more) rest kept plain ends =
    let ident : is_ident (c ∷ more) ≡ true = spelled_so (is_ident (c ∷ more)) (upper (c ∷ more)) (c ∷ more) kept in
    let outer : ((not (is_ascii_digit c) && nat_le (length more) 30) ≡ true)
    × (list_all is_ident_sign (c ∷ more) ≡ true) =
    and_parts (not (is_ascii_digit c) && nat_le (length more) 30) (list_all is_ident_sign (c ∷ more)) ident in
    let inner : (not (is_ascii_digit c) ≡ true) × (nat_le (length more) 30 ≡ true) =
    and_parts (not (is_ascii_digit c)) (nat_le (length more) 30) outer.0 in
    let sign : is_ident_sign c ≡ true = (and_parts (is_ident_sign c) (list_all is_ident_sign more) outer.1).0 in
    word_begun here c more rest (no_blank c sign) (distinct c 33 sign refl) (not-true (is_ascii_digit c) inner.0)
    outer.1 kept ends
    ∙ ap (λ t. Whole t (length (c ∷ more))) (plain (at_front here (length (c ∷ more))))
