use Rattle.std.proofs.Common.{◌∙◌, sym}
use Rattle.std.specs.Cmp.Rules.{signed_items}
use Rattle.packet_words.proofs.layout.is_told_by.Goals as goal

pub returns-then-is_whole : goal.returns-then-is_whole
returns-then-is_whole c =
    let same = signed_items c.to_words.result c.args.words.now in (
      λ yes. (sym c.if-is_whole.ensures, sym c.to_words.ensures ∙ same.0 (sym c.eq.ensures ∙ yes)),
      λ both. c.eq.ensures ∙ same.1 (c.to_words.ensures ∙ both.1),
    )
