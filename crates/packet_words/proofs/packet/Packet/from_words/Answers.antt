use Rattle.std.proofs.Common.{◌≡◌, true, false, sym, ap, ◌∙◌}
use Rattle.packet_words.specs.Layout.{is_packet, words_of}
use Rattle.packet_words.specs.Telling.{told}
use Rattle.packet_words.proofs.Telling.{told_again}
use Rattle.packet_words.proofs.packet.Packet.from_words.Goals as goal

pub returns-else-is_told_by-clause-none : goal.returns-else-is_told_by-clause-none
returns-else-is_told_by-clause-none c p small is same =
    let found = c.told-packet.ensures ∙ ap told (sym same) ∙ told_again p small is in
    let yes : false ≡ true = c.if-is_told_by.ensures.1 (ap is_packet found ∙ is, ap words_of found ∙ same) in
    absurd (cc)
