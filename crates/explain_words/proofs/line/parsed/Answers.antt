use Rattle.std.proofs.Common.{◌≡◌, ◌⊎◌, Global, map, string_bytes, subst, sym}
use Rattle.clap.specs.Words.{IsAmong, fault_of}
use Rattle.clap.specs.declared.error.kind.ErrorKind.{ErrorKind}
use Rattle.clap.specs.declared.error.kind.ErrorKind.TheVariants as kind
use Rattle.explain_words.specs.Line.{the_line}
use Rattle.explain_words.proofs.RefusedKinds.{refused-parse}
use Rattle.explain_words.proofs.line.parsed.Goals as goal

pub returns-in-Err : goal.returns-in-Err
returns-in-Err c =
    let words = map (string_bytes {Z = Global}) c.args.words.now in
    refused-parse words c.kind.result c.refused.result
    (subst (λ (one : ErrorKind). (one ≡ kind.OutOfMemory) ⊎ IsAmong one (fault_of the_line words))
    (sym c.kind.ensures) c.in-Err.ensures.kinds)
    c.refused.ensures.kind c.refused.ensures.told
