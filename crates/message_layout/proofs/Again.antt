-- What is written is read back.
use Rattle.std.proofs.Common.{◌≡◌, Bool, false, if◌then◌else◌, Some, None, ap, sym, ◌∙◌}
use Rattle.std.specs.Option.{option_map, option_and_then}
use Rattle.change_layout.specs.tal_tree.specs.declared.site.Site.{Site}
use Rattle.world_semantics.specs.checkpoint_image.proofs.Messages.{read-again}
use Rattle.world_semantics.specs.Messages.{Message, Asking, Replying, Checkpointing, Taking}
use Rattle.change_layout.proofs.Messages as changes
use Rattle.message_layout.specs.Messages.{NodeMessage, Carrying, Changing, Reporting, Declaring, is_known}
use Rattle.message_layout.specs.Layout.{words_of, Fits, IsCarriedWithin, IsWithin}
use Rattle.message_layout.specs.Reading.{node_message_in, if_known, understood}
use Rattle.message_layout.proofs.Readers.{request-reads, answer-reads, taken-reads, report-reads, processor-reads}
use Rattle.message_layout.proofs.Readers.{whole-again}

carried-again : (message : Message) → IsCarriedWithin message
    → node_message_in (words_of (Carrying message)) ≡ Some (Carrying message)
carried-again (Asking request) is =
    ap (option_map (λ request. Carrying (Asking request)))
    (whole-again request-reads request ((is.process, is.opener), (is.number, (is.words, tt))))
carried-again (Replying reply) is =
    ap (option_map (λ reply. Carrying (Replying reply)))
    (whole-again answer-reads reply ((is.process, is.opener), (is.number, (is.words, tt))))
carried-again (Checkpointing message) is =
    ap (option_map (λ message. Carrying (Checkpointing message))) (read-again message is)
carried-again (Taking taken) is =
    ap (option_map (λ taken. Carrying (Taking taken))) (whole-again taken-reads taken (is.process, (is.era, is.number)))

pub written-again : (message : NodeMessage) → IsWithin message → node_message_in (words_of message) ≡ Some message
written-again (Carrying message) is = carried-again message is
written-again (Changing change) is = ap (option_map (λ change. Changing change)) (changes.read-again change is)
written-again (Reporting node silent) is =
    ap (option_map (λ (node, silent). Reporting node silent)) (whole-again report-reads (node, silent) (is.0, is.1))
written-again (Declaring processor) is =
    ap (option_map (λ processor. Declaring processor)) (whole-again processor-reads processor is)

pub apart : (one other : NodeMessage) → IsWithin one → IsWithin other → words_of one ≡ words_of other → one ≡ other
apart one other is_one is_other same =
    let found : Some one ≡ Some other =
    sym (written-again one is_one) ∙ ap node_message_in same ∙ written-again other is_other in cc

-- A site takes the words of a message for it where all that it names is there

pub known-again : (site : Site) (message : NodeMessage) → Fits site message
    → understood site (words_of message) ≡ Some message
known-again site message fits =
    ap (option_and_then (if_known site)) (written-again message fits.within)
    ∙ ap (λ (b : Bool). if b then Some message else None) fits.known

pub unknown-dropped : (site : Site) (message : NodeMessage) → IsWithin message → is_known site message ≡ false
    → understood site (words_of message) ≡ None
unknown-dropped site message is unknown =
    ap (option_and_then (if_known site)) (written-again message is)
    ∙ ap (λ (b : Bool). if b then Some message else None) unknown
