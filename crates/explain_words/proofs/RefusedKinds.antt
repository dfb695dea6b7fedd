-- What words ask for that clap refuses for one kind alone.
use Rattle.std.proofs.Common.{◌≡◌, ◌⊎◌, List, [], ◌∷◌, Option, None, Result, Ok, Err, inl, inr, ap, refl, sym, subst}
use Rattle.std.proofs.Common.{◌∙◌}
use Rattle.std.specs.Prelude.{◌≢◌, IfOk}
use Rattle.clap.specs.Words.{IsAmong, Kinds, Row, Text, fault_of, matches_of}
use Rattle.clap.specs.declared.error.kind.ErrorKind.{ErrorKind}
use Rattle.clap.specs.declared.error.kind.ErrorKind.TheVariants as kind
use Rattle.gd_words.specs.declared.memory.NoMemory.{NoMemory}
use Rattle.explain_words.specs.Line.{IsParse, IsRefusedFor, the_line}
use Rattle.explain_words.specs.declared.line.Parse.{Parse}
use Rattle.explain_words.specs.declared.line.Parse.TheVariants as parse
use Rattle.explain_words.specs.Asked.{AsksBy, IsAsked, file_by, kind_question}
use Rattle.explain_words.specs.declared.asked.Question.{Question}

the-one : (one other : ErrorKind) → IsAmong one (other ∷ []) → one ≡ other
the-one one other (inl is) = is
the-one one other (inr none) = absurd none

pub one-kind : (only : ErrorKind) (question : Option Question)
    → (one : ErrorKind) × IsAmong one (only ∷ []) × (question ≡ kind_question one) → question ≡ kind_question only
one-kind only question asked = asked.2 ∙ ap kind_question (the-one asked.0 only asked.1)

-- a parse that is refused for a kind, and not since memory ran out
refused-for : (words : List Text) (one : ErrorKind) (made : Parse)
    → (one ≡ kind.OutOfMemory) ⊎ IsAmong one (fault_of the_line words) → IsRefusedFor one made
    → one ≢ kind.OutOfMemory → IsParse words made
refused-for words one (parse.Words matches) which is told = absurd is
refused-for words one (parse.Refused other) (inl memory) is told = absurd (told memory)
refused-for words one (parse.Refused other) (inr among) is told =
    subst (λ (k : ErrorKind). IsAmong k (fault_of the_line words)) (sym is) among

pub refused-parse : (words : List Text) (one : ErrorKind) (result : Result Parse NoMemory)
    → (one ≡ kind.OutOfMemory) ⊎ IsAmong one (fault_of the_line words) → IfOk result (λ made. IsRefusedFor one made)
    → IfOk result (λ made. one ≢ kind.OutOfMemory) → IfOk result (λ made. IsParse words made)
refused-parse words one (Ok made) which is told = refused-for words one made which is told
refused-parse words one (Err memory) which is told = tt

asks-by : (kinds : Kinds) (rows : List Row) (one : ErrorKind) (question : Option Question) → IsAmong one kinds
    → question ≡ kind_question one → AsksBy kinds rows question
asks-by [] rows one question among is = absurd among
asks-by (first ∷ kinds) rows one question among is = (one, among, is)

-- what words ask for that are refused for a kind
pub asked-for-kind : (words : List Text) (made : Parse) (one : ErrorKind) (question : Option Question)
    → IsParse words made → made ≡ parse.Refused one → question ≡ kind_question one → IsAsked words question
asked-for-kind words made one question parsed is told =
    asks-by (fault_of the_line words) (matches_of the_line words) one question (subst (IsParse words) is parsed) told

none-by : (kinds : Kinds) (rows : List Row) (one : ErrorKind) → IsAmong one kinds → None ≡ file_by kinds rows
none-by [] rows one among = absurd among
none-by (first ∷ kinds) rows one among = refl

-- words that are refused name no file
pub no-file : (words : List Text) (made : Parse) (one : ErrorKind) → IsParse words made → made ≡ parse.Refused one
    → None ≡ file_by (fault_of the_line words) (matches_of the_line words)
no-file words made one parsed is =
    none-by (fault_of the_line words) (matches_of the_line words) one (subst (IsParse words) is parsed)
