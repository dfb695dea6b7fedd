-- The text of pieces is cut into these pieces.
use Rattle.std.proofs.Common.{◌≡◌, ℕ, ◌-◌, ◌*◌, ◌<◌, zero, suc, Bool, true, false, List, [], ◌∷◌, ◌++◌, length}
use Rattle.std.proofs.Common.{replicate, refl, sym, ap, ◌∙◌, arith, append_assoc, if◌then◌else◌}
use Rattle.std.specs.Prelude.{pos, negsuc, None, codes, is_some}
use Rattle.std.specs.List.{list_all}
use Rattle.std.proofs.lemmas.Bool.{and_parts, true≢false}
use Rattle.std.proofs.lemmas.Fmt.{decimal_nonempty}
use Rattle.tal_tokens.specs.declared.begun.Begun.TheVariants.{Gap, Whole}
use Rattle.tal_tokens.specs.declared.cursor.Cursor.{Cursor}
use Rattle.tal_tokens.specs.declared.lexer.TokenList.{TokenList}
use Rattle.tal_tokens.specs.declared.token.Token.{Token}
use Rattle.tal_tokens.specs.Cursor.{after, passed, at_front, start_of_text}
use Rattle.tal_tokens.specs.Lexeme.{begun_of, is_blank}
use Rattle.tal_tokens.specs.Lexer.{lexed, lexed_by, with_front}
use Rattle.tal_pieces.specs.declared.ending.Ending.{Ending}
use Rattle.tal_pieces.specs.declared.ending.Ending.TheVariants as ending
use Rattle.tal_pieces.specs.declared.piece.Keyword.TheVariants as word
use Rattle.tal_pieces.specs.declared.piece.Symbol.TheVariants as sign
use Rattle.tal_pieces.specs.declared.piece.Piece.{Piece}
use Rattle.tal_pieces.specs.declared.piece.Piece.TheVariants as piece
use Rattle.tal_names.specs.declared.system.System.TheVariants as system
use Rattle.tal_pieces.specs.Spelling.{Sheet, text_of, keyword_text, symbol_text, system_text, ending_of, is_end}
use Rattle.tal_pieces.specs.Spelling.{is_tight, line_at, depth_at, depth_after, gap, laid, lay, blank, text_of_pieces}
use Rattle.tal_pieces.specs.Cuts.{token_of, AreTokens, finished, followed, IsSpellable, AreSpellable, CutsInto}
use Rattle.tal_pieces.proofs.Spelling.Begun.{BeginsWith, keyword_begun, system_begun, name_begun_is}
use Rattle.tal_pieces.proofs.Spelling.Follow.{heads, parts, follow, word_below, text_positive}
use Rattle.tal_pieces.proofs.Spelling.Numbers.{number_begun}
use Rattle.tal_pieces.proofs.Spelling.Strings.{receive_begun, process_begun}
use Rattle.tal_pieces.proofs.Spelling.Symbols.{symbol_begun}

-- what comes of pieces after a text with this layout
abbrev rest_text : ℕ → Ending → List Piece → List ℕ
rest_text depth e [] = 10 ∷ []
rest_text depth e (k ∷ ks) = gap depth e k ++ (text_of k ++ rest_text (depth_after depth k) (ending_of k) ks)

lay_is : (s : Sheet) (ks : List Piece) → (lay s ks).text ++ 10 ∷ [] ≡ s.text ++ rest_text s.depth s.ending ks
lay_is s [] = refl
lay_is s (k ∷ ks) =
    let rest : List ℕ = rest_text (depth_after s.depth k) (ending_of k) ks in
    lay_is (laid s k) ks ∙ append_assoc (s.text ++ gap s.depth s.ending k) (text_of k) rest
    ∙ append_assoc s.text (gap s.depth s.ending k) (text_of k ++ rest)

piece_begun : (here : Cursor) (k : Piece) (rest : List ℕ) → IsSpellable k → heads (parts (ending_of k)) rest ≡ true
    → BeginsWith here (text_of k) rest (λ at. token_of at k)
piece_begun here (piece.Keyword k) rest h ends = keyword_begun here k rest ends
piece_begun here (piece.Symbol s) rest h ends = symbol_begun here s rest ends
piece_begun here (piece.System s) rest h ends = system_begun here s rest ends
piece_begun here (piece.Name name) rest h ends = name_begun_is here name rest h.0 h.1 ends
piece_begun here (piece.Number n) rest h ends = number_begun here n rest h ends
piece_begun here piece.Receive rest h ends = receive_begun here rest
piece_begun here (piece.Process name) rest h ends = process_begun here name rest h

some_keyword : (k : _) → 0 < length (keyword_text k)
some_keyword word.And = omega arith
some_keyword word.Begin = omega arith
some_keyword word.By = omega arith
some_keyword word.Call = omega arith
some_keyword word.Do = omega arith
some_keyword word.DownTo = omega arith
some_keyword word.Else = omega arith
some_keyword word.End = omega arith
some_keyword word.For = omega arith
some_keyword word.If = omega arith
some_keyword word.Int = omega arith
some_keyword word.Main = omega arith
some_keyword word.Not = omega arith
some_keyword word.Or = omega arith
some_keyword word.Proc = omega arith
some_keyword word.Return = omega arith
some_keyword word.Then = omega arith
some_keyword word.To = omega arith
some_keyword word.Until = omega arith
some_keyword word.While = omega arith

some_symbol : (s : _) → 0 < length (symbol_text s)
some_symbol sign.Assign = omega arith
some_symbol sign.Differs = omega arith
some_symbol sign.AtMost = omega arith
some_symbol sign.AtLeast = omega arith
some_symbol sign.Less = omega arith
some_symbol sign.Greater = omega arith
some_symbol sign.Equal = omega arith
some_symbol sign.Plus = omega arith
some_symbol sign.Minus = omega arith
some_symbol sign.Star = omega arith
some_symbol sign.Slash = omega arith
some_symbol sign.Open = omega arith
some_symbol sign.Close = omega arith
some_symbol sign.OpenIndex = omega arith
some_symbol sign.CloseIndex = omega arith
some_symbol sign.Comma = omega arith
some_symbol sign.Semicolon = omega arith
some_symbol sign.Colon = omega arith

some_system : (s : _) → 0 < length (system_text s)
some_system system.CheckMonitor = omega arith
some_system system.Checkpoint = omega arith
some_system system.Open = omega arith
some_system system.ReadUpdate = omega arith
some_system system.Reply = omega arith
some_system system.Stop = omega arith
some_system system.WriteRead = omega arith

some_text : (k : Piece) → IsSpellable k → 0 < length (text_of k)
some_text (piece.Keyword k) h = some_keyword k
some_text (piece.Symbol s) h = some_symbol s
some_text (piece.System s) h = some_system s
some_text (piece.Name []) h = absurd (true≢false (sym (ap is_some h.0)))
some_text (piece.Name (c ∷ name)) h = omega arith
some_text (piece.Number (pos m)) h = omega (arith, decimal_nonempty m (word_below m h), ap length (text_positive m))
some_text (piece.Number (negsuc m)) h = omega arith
some_text piece.Receive h = omega arith
some_text (piece.Process name) h = omega arith

all_blank : (n : ℕ) → list_all is_blank (replicate n 32) ≡ true
all_blank zero = refl
all_blank (suc n) = all_blank n

blank_choice : (ended tight : Bool) (depth : ℕ)
    → list_all is_blank (if ended then line_at depth else if tight then [] else codes " ") ≡ true
blank_choice true tight depth = all_blank (2 * depth)
blank_choice false true depth = refl
blank_choice false false depth = refl

gap_is_blank : (depth : ℕ) (e : Ending) (k : Piece) → list_all is_blank (gap depth e k) ≡ true
gap_is_blank depth ending.Nothing k = refl
gap_is_blank depth ending.Line k = all_blank (2 * depth_at depth k)
gap_is_blank depth ending.Bracket k = blank_choice (is_end k) (is_tight ending.Bracket k) (depth - 1)
gap_is_blank depth ending.Name k = blank_choice (is_end k) (is_tight ending.Name k) (depth - 1)
gap_is_blank depth ending.Colon k = blank_choice (is_end k) (is_tight ending.Colon k) (depth - 1)
gap_is_blank depth ending.Other k = blank_choice (is_end k) (is_tight ending.Other k) (depth - 1)

follow_rest : (depth : ℕ) (e : Ending) (ks : List Piece) → AreSpellable ks
    → heads (parts e) (rest_text depth e ks) ≡ true
follow_rest depth ending.Nothing [] h = refl
follow_rest depth ending.Line [] h = refl
follow_rest depth ending.Bracket [] h = refl
follow_rest depth ending.Name [] h = refl
follow_rest depth ending.Colon [] h = refl
follow_rest depth ending.Other [] h = refl
follow_rest depth e (k ∷ ks) h = follow depth e k (rest_text (depth_after depth k) (ending_of k) ks) h.0

skip : (n : ℕ) (here : Cursor) (text rest : List ℕ) → n ≡ length text
    → lexed n here (text ++ rest) ≡ lexed 0 (passed here text) rest
skip zero here [] rest e = refl
skip zero here (c ∷ text) rest e = absurd (omega (arith, e))
skip (suc n) here [] rest e = absurd (omega (arith, e))
skip (suc n) here (c ∷ text) rest e = skip n (after here c) text rest (omega (arith, e))

blanks : (here : Cursor) (text rest : List ℕ) → list_all is_blank text ≡ true
    → lexed 0 here (text ++ rest) ≡ lexed 0 (passed here text) rest
blanks here [] rest all = refl
blanks here (c ∷ text) rest all =
    let parts : (is_blank c ≡ true) × (list_all is_blank text ≡ true) =
    and_parts (is_blank c) (list_all is_blank text) all in
    let gap_here : begun_of here (c ∷ (text ++ rest)) ≡ Gap 1 = rw parts.0 refl in
    ap (λ b. lexed_by b (λ k. lexed k (after here c) (text ++ rest))) gap_here ∙ blanks (after here c) text rest parts.1

token_front : (here : Cursor) (text rest : List ℕ) (token : Token) → 0 < length text
    → begun_of here (text ++ rest) ≡ Whole token (length text)
    → lexed 0 here (text ++ rest) ≡ with_front token (lexed 0 (passed here text) rest)
token_front here [] rest token some e = absurd (omega arith)
token_front here (c ∷ text) rest token some e =
    ap (λ b. lexed_by b (λ k. lexed k (after here c) (text ++ rest))) e
    ∙ ap (with_front token) (skip (length (c ∷ text) - 1) (after here c) text rest (omega arith))

record Cut (ks : List Piece) (tokens : TokenList) : Type 0 where
  list : List Token
  whole : tokens ≡ record { list = list; fault = None }
  pieces : AreTokens ks list

cut : (depth : ℕ) (e : Ending) (ks : List Piece) (here : Cursor) → AreSpellable ks
    → Cut ks (lexed 0 here (rest_text depth e ks))
cut depth e [] here h = record { list = _; whole = refl; pieces = finished (at_front (after here 10) 0) }
cut depth e (k ∷ ks) here h =
    let rest : List ℕ = rest_text (depth_after depth k) (ending_of k) ks in
    let begin : Cursor = passed here (gap depth e k) in
    let later = cut (depth_after depth k) (ending_of k) ks (passed begin (text_of k)) h.1 in
    let token : Token = token_of (at_front begin (length (text_of k))) k in
    record {
      list = token ∷ later.list;
      whole =
          blanks here (gap depth e k) (text_of k ++ rest) (gap_is_blank depth e k)
          ∙ token_front begin (text_of k) rest token (some_text k h.0)
          (piece_begun begin k rest h.0 (follow_rest (depth_after depth k) (ending_of k) ks h.1))
          ∙ ap (with_front token) later.whole;
      pieces = followed (at_front begin (length (text_of k))) k later.pieces;
    }

pub cuts : (ks : List Piece) → AreSpellable ks → CutsInto ks (text_of_pieces ks)
cuts ks h =
    let whole = cut 0 ending.Nothing ks start_of_text h in
    record {
      list = whole.list;
      tokens = ap (lexed 0 start_of_text) (lay_is blank ks) ∙ whole.whole;
      pieces = whole.pieces;
    }
