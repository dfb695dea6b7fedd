-- The end of a text is its last token, and no token before a fault in the spelling is an end.
use Rattle.std.proofs.Common.{◌≡◌, ℕ, ◌-◌, zero, suc, Bool, true, false, if◌then◌else◌, List, [], ◌∷◌, ◌++◌, Option}
use Rattle.std.proofs.Common.{Some, None, refl, ap}
use Rattle.std.specs.Prelude.{◌+◌, take, slice_index, ◌==◌, unwrap_or}
use Rattle.std.specs.Option.{option_or}
use Rattle.std.specs.Char.{is_ascii_digit}
use Rattle.std.specs.List.{position}
use Rattle.tal_tree.specs.gd_words.specs.Spelling.{is_ident_sign, ident_of, name_of}
use Rattle.tal_tree.specs.declared.fault.TalFault.{TalFault}
use Rattle.tal_tokens.specs.declared.begun.Begun.{Begun}
use Rattle.tal_tokens.specs.declared.begun.Begun.TheVariants.{Gap, Whole, Broken}
use Rattle.tal_tokens.specs.declared.cursor.Cursor.{Cursor}
use Rattle.tal_tokens.specs.declared.lexer.TokenList.{TokenList}
use Rattle.tal_tokens.specs.declared.token.At.{At}
use Rattle.tal_tokens.specs.declared.token.Token.{Token}
use Rattle.tal_tokens.specs.declared.token.Token.TheVariants as tok
use Rattle.tal_tokens.specs.Cursor.{after, at_front, start_of_text}
use Rattle.tal_tokens.specs.Lexeme.{keyword_first, keyword_second, keyword_third, word_token, named, numbered}
use Rattle.tal_tokens.specs.Lexeme.{process_token, text_token, string_to, pair_token, punctuation_token, sign_token}
use Rattle.tal_tokens.specs.Lexeme.{paired}
use Rattle.tal_tokens.specs.Lexeme.{signed, longest, begun_of, run_of, is_octal, at_most, is_blank}
use Rattle.tal_tree.specs.gd_words.specs.Digits.{value_from}
use Rattle.tal_tokens.specs.Lexeme.{comment_of, is_string_end, decimal_begun, name_begun, octal_begun, string_begun}
use Rattle.tal_tokens.specs.Lexer.{with_front, lexed_by, lexed, tokens_of}

-- a token isn't the end of a text
abbrev pub GoesOn : Token → Type 0
GoesOn (tok.Finish at) = ⊥
GoesOn _ = Unit {0}

abbrev pub AllGoOn : List Token → Type 0
AllGoOn [] = Unit {0}
AllGoOn (k ∷ ks) = GoesOn k × AllGoOn ks

-- a token, if there is one, isn't the end of a text
data MayGoOn : Option Token → Type 0 where
  no_token : MayGoOn None
  a_token : {k : Token} → GoesOn k → MayGoOn (Some k)

-- what is begun isn't the end of a text
data Begins : Begun → Type 0 where
  by_gap : {n : ℕ} → Begins (Gap n)
  by_token : {k : Token} {n : ℕ} → GoesOn k → Begins (Whole k n)
  by_fault : {f : TalFault} → Begins (Broken f)

if-some : (b : Bool) (k : Token) (o : Option Token) → GoesOn k → MayGoOn o → MayGoOn (if b then Some k else o)
if-some true k o g m = a_token g
if-some false k o g m = m

one-or : {o p : Option Token} → MayGoOn o → MayGoOn p → MayGoOn (option_or o p)
one-or no_token h = h
one-or (a_token g) h = a_token g

or-name : {o : Option Token} (at : At) (word : List ℕ) → MayGoOn o → GoesOn (unwrap_or o (tok.Name at word))
or-name at word no_token = tt
or-name at word (a_token g) = g

if-begins : (b : Bool) (x y : Begun) → Begins x → Begins y → Begins (if b then x else y)
if-begins true x y g h = g
if-begins false x y g h = h

keyword-first : (at : At) (word : List ℕ) → MayGoOn (keyword_first at word)
keyword-first at word =
    if-some _ (tok.And at) _ tt (if-some _ (tok.Begin at) _ tt (if-some _ (tok.By at) _ tt (if-some _ (tok.Call at) _ tt
    (if-some _ (tok.Do at) _ tt (if-some _ (tok.DownTo at) _ tt (if-some _ (tok.Else at) None tt no_token))))))

keyword-second : (at : At) (word : List ℕ) → MayGoOn (keyword_second at word)
keyword-second at word =
    if-some _ (tok.End at) _ tt (if-some _ (tok.For at) _ tt (if-some _ (tok.If at) _ tt (if-some _ (tok.Int at) _ tt
    (if-some _ (tok.Literal at) _ tt (if-some _ (tok.Main at) _ tt (if-some _ (tok.Not at) None tt no_token))))))

keyword-third : (at : At) (word : List ℕ) → MayGoOn (keyword_third at word)
keyword-third at word =
    if-some _ (tok.Or at) _ tt (if-some _ (tok.Proc at) _ tt
    (if-some _ (tok.Return at) _ tt (if-some _ (tok.Then at) _ tt
    (if-some _ (tok.To at) _ tt (if-some _ (tok.Until at) _ tt (if-some _ (tok.While at) None tt no_token))))))

word-goes-on : (at : At) (word : List ℕ) → GoesOn (word_token at word)
word-goes-on at word =
    or-name at word (one-or (keyword-first at word) (one-or (keyword-second at word) (keyword-third at word)))

name-begins : (here : Cursor) (n : ℕ) (o : Option (List ℕ)) → Begins (named here n o)
name-begins here n None = by_fault
name-begins here n (Some word) = by_token (word-goes-on (at_front here n) word)

number-begins : (here : Cursor) (n : ℕ) (o : Option ℕ) → Begins (numbered here n o)
number-begins here n None = by_fault
number-begins here n (Some v) = by_token tt

process-goes-on : (at : At) (o : Option (List ℕ)) → GoesOn (process_token at o)
process-goes-on at None = tt
process-goes-on at (Some name) = tt

either-goes-on : (b : Bool) (j k : Token) → GoesOn j → GoesOn k → GoesOn (if b then j else k)
either-goes-on true j k g h = g
either-goes-on false j k g h = h

text-goes-on : (at : At) (text : List ℕ) → GoesOn (text_token at text)
text-goes-on at text =
    either-goes-on _ (tok.Receive at) (process_token at (name_of text)) tt (process-goes-on at (name_of text))

string-begins : (here : Cursor) (rest : List ℕ) (o : Option ℕ) → Begins (string_to here rest o)
string-begins here rest None = by_fault
string-begins here rest (Some k) =
    if-begins (slice_index rest k == 34) _ _ (by_token (text-goes-on (at_front here (k + 2)) (take k rest))) by_fault

pair-goes-on : (at : At) (c d : ℕ) → MayGoOn (pair_token at c d)
pair-goes-on at c d =
    if-some _ (tok.Assign at) _ tt (if-some _ (tok.Differs at) _ tt
    (if-some _ (tok.AtMost at) _ tt (if-some _ (tok.AtLeast at) None tt no_token)))

paired-goes-on : (at : At) (c : ℕ) (rest : List ℕ) → MayGoOn (paired at c rest)
paired-goes-on at c [] = no_token
paired-goes-on at c (d ∷ rest) = pair-goes-on at c d

punctuation-goes-on : (at : At) (c : ℕ) → MayGoOn (punctuation_token at c)
punctuation-goes-on at c =
    if-some _ (tok.Open at) _ tt (if-some _ (tok.Close at) _ tt
    (if-some _ (tok.OpenIndex at) _ tt (if-some _ (tok.CloseIndex at) _ tt
    (if-some _ (tok.Comma at) _ tt (if-some _ (tok.Semicolon at) _ tt (if-some _ (tok.Colon at) None tt no_token))))))

sign-goes-on : (at : At) (c : ℕ) → MayGoOn (sign_token at c)
sign-goes-on at c =
    if-some _ (tok.Less at) _ tt (if-some _ (tok.Greater at) _ tt
    (if-some _ (tok.Equal at) _ tt (if-some _ (tok.Plus at) _ tt
    (if-some _ (tok.Minus at) _ tt (if-some _ (tok.Star at) _ tt
    (if-some _ (tok.Slash at) _ tt (punctuation-goes-on at c)))))))

signed-begins : (here : Cursor) {o : Option Token} → MayGoOn o → Begins (signed here o)
signed-begins here no_token = by_fault
signed-begins here (a_token g) = by_token g

longest-begins : (here : Cursor) (c : ℕ) {o : Option Token} → MayGoOn o → Begins (longest here c o)
longest-begins here c no_token = signed-begins here (sign-goes-on (at_front here 1) c)
longest-begins here c (a_token g) = by_token g

decimal-begins : (here : Cursor) (text : List ℕ) → Begins (decimal_begun here text)
decimal-begins here text =
    number-begins here (run_of is_ascii_digit text)
    (at_most 32767 (value_from 10 0 (take (run_of is_ascii_digit text) text)))

octal-begins : (here : Cursor) (digits : List ℕ) → Begins (octal_begun here digits)
octal-begins here digits =
    if-begins (run_of is_octal digits == 0) _ _ by_fault
    (number-begins here (run_of is_octal digits + 1)
    (at_most 65535 (value_from 8 0 (take (run_of is_octal digits) digits))))

-- what a text begins with isn't its end
begins : (here : Cursor) (text : List ℕ) → Begins (begun_of here text)
begins here [] = by_gap
begins here (c ∷ rest) =
    if-begins (is_blank c) (Gap 1) _ by_gap
    (if-begins (c == 33) (Gap (comment_of rest)) _ by_gap
    (if-begins (is_ascii_digit c) (decimal_begun here (c ∷ rest)) _ (decimal-begins here (c ∷ rest))
    (if-begins (is_ident_sign c) (name_begun here (c ∷ rest)) _
    (name-begins here (run_of is_ident_sign (c ∷ rest)) (ident_of (take (run_of is_ident_sign (c ∷ rest)) (c ∷ rest))))
    (if-begins (c == 37) (octal_begun here rest) _ (octal-begins here rest)
    (if-begins (c == 34) (string_begun here rest) _ (string-begins here rest (position is_string_end rest))
    (longest-begins here c (paired-goes-on (at_front here 2) c rest)))))))

-- the tokens end with the text, or before a fault in the spelling
pub data Ended (tokens : TokenList) : Type 0 where
  whole : (front : List Token) (at : At) → tokens.fault ≡ None → tokens.list ≡ front ++ tok.Finish at ∷ []
      → Ended tokens
  broken : {f : TalFault} → tokens.fault ≡ Some f → AllGoOn tokens.list → Ended tokens

ended-front : (k : Token) (tokens : TokenList) → GoesOn k → Ended tokens → Ended (with_front k tokens)
ended-front k tokens g (whole front at e l) = whole (k ∷ front) at e (ap (λ ks. k ∷ ks) l)
ended-front k tokens g (broken e a) = broken e (g, a)

ended-by : {b : Begun} (go : ℕ → TokenList) → Begins b → ((k : ℕ) → Ended (go k)) → Ended (lexed_by b go)
ended-by go (by_gap {n = n}) h = h (n - 1)
ended-by go (by_token {k = k} {n = n} g) h = ended-front k (go (n - 1)) g (h (n - 1))
ended-by go by_fault h = broken refl tt

ended : (skip : ℕ) (here : Cursor) (text : List ℕ) → Ended (lexed skip here text)
ended zero here [] = whole [] (at_front here 0) refl refl
ended (suc skip) here [] = whole [] (at_front here 0) refl refl
ended zero here (c ∷ rest) =
    ended-by (λ k. lexed k (after here c) rest) (begins here (c ∷ rest)) (λ k. ended k (after here c) rest)
ended (suc skip) here (c ∷ rest) = ended skip (after here c) rest

pub tokens-end : (text : List ℕ) → Ended (tokens_of text)
tokens-end text = ended 0 start_of_text text
