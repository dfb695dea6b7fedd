use Rattle.std.proofs.Common.{◌≡◌, ◌+◌, length}
use Rattle.tal_tokens.specs.Cursor.{IsNear}
use Rattle.tal_tokens.specs.Lexer.{lexed, tokens_of}
use Rattle.tal_tokens.proofs.Lexed.{onto}
use Rattle.tal_tokens.proofs.lexer.tokens.Given as goal

abbrev pub decreases-loop-rest : goal.decreases-loop-rest
decreases-loop-rest l = length l.rest

-- the tokens so far and those of what is left are the tokens of the text
abbrev pub invariant-loop-rest : goal.invariant-loop-rest
invariant-loop-rest l =
    record {
      told : onto l.list (lexed 0 l.here l.rest) ≡ tokens_of l.text;
      length : l.here.offset + length l.rest ≡ length l.text;
      near : IsNear l.here;
    }
