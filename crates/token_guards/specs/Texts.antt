-- What is told of a text's tokens.
use Rattle.std.specs.Prelude.{ℕ, ◌+◌, List, Option}
use Rattle.tal_tree.specs.declared.place.Place.{Place}
use Rattle.tal_tree.specs.declared.fault.TalFault.{TalFault}
use Rattle.tal_tokens.specs.declared.token.At.{At}
use Rattle.tal_tokens.specs.declared.token.Token.{Token}
use Rattle.tal_tokens.specs.Lexer.{tokens_of}

abbrev pub fault_in : List ℕ → Option TalFault
fault_in text = (tokens_of text).fault

abbrev pub tokens_in : List ℕ → List Token
tokens_in text = (tokens_of text).list

abbrev pub place : ℕ → ℕ → Place
place line column = record { line = line; column = column }

-- where a token of the first line stands, whose bytes go from `start` up to, but without, `end`
abbrev pub on_first_line : ℕ → ℕ → At
on_first_line start end = record { place = record { line = 1; column = start + 1 }; start = start; end = end }
