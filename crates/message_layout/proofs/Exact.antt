-- What is read was written so.
use Rattle.std.proofs.Common.{◌≡◌, ℕ, zero, suc, ℤ, pos, negsuc, Bool, true, false, if◌then◌else◌, List, [], ◌∷◌}
use Rattle.std.proofs.Common.{Option, Some, None, refl, ap, subst}
use Rattle.std.specs.Option.{option_map, option_and_then}
use Rattle.change_layout.specs.tal_tree.specs.declared.site.Site.{Site}
use Rattle.world_semantics.specs.process_semantics.specs.Words.{whole}
use Rattle.world_semantics.specs.checkpoint_image.specs.Reading.{message_in}
use Rattle.world_semantics.specs.checkpoint_image.proofs.Messages.{read-exact}
use Rattle.world_semantics.specs.Messages.{Asking, Replying, Checkpointing, Taking}
use Rattle.change_layout.proofs.Messages as changes
use Rattle.change_layout.specs.Reading as changes_in
use Rattle.message_layout.specs.Messages.{NodeMessage, Carrying, Changing, Reporting, Declaring, is_known}
use Rattle.message_layout.specs.Layout.{words_of, Fits, IsWithin}
use Rattle.message_layout.specs.Reading.{request_in, answer_in, taken_in, report_in, message_of_kind, node_message_in}
use Rattle.message_layout.specs.Reading.{if_known, processor_in, understood}
use Rattle.message_layout.proofs.Readers.{request-reads, answer-reads, taken-reads, report-reads, processor-reads}
use Rattle.message_layout.proofs.Readers.{whole-exact}

-- these words are those of a message within the layout
abbrev IsOf : List ℤ → NodeMessage → Type 0
IsOf words message = (words_of message ≡ words) × IsWithin message

-- what one part tells, as a message
told : {A : Type 0} (found : Option A) (make : A → NodeMessage) (words : List ℤ) (message : NodeMessage)
    → ((x : A) → found ≡ Some x → IsOf words (make x)) → option_map make found ≡ Some message → IsOf words message
told None make words message right is = absurd cc
told (Some x) make words message right is = let same : make x ≡ message = cc in subst (IsOf words) same (right x refl)

of-kind : (kind : ℕ) (words : List ℤ) (message : NodeMessage) → message_of_kind kind words ≡ Some message
    → IsOf (pos kind ∷ words) message
of-kind zero words message is = absurd cc
of-kind (suc zero) words message is =
    told (whole (request_in words)) (λ request. Carrying (Asking request)) (pos 1 ∷ words) message
    (λ request found. let was = whole-exact request-reads words request found in (
      ap (λ (ws : List ℤ). pos 1 ∷ ws) was.0,
      record { process = was.1.0.0; opener = was.1.0.1; number = was.1.1.0; words = was.1.1.1.0 },
    )) is
of-kind (suc (suc zero)) words message is =
    told (whole (answer_in words)) (λ reply. Carrying (Replying reply)) (pos 2 ∷ words) message
    (λ reply found. let was = whole-exact answer-reads words reply found in (
      ap (λ (ws : List ℤ). pos 2 ∷ ws) was.0,
      record { process = was.1.0.0; opener = was.1.0.1; number = was.1.1.0; words = was.1.1.1.0 },
    )) is
of-kind (suc (suc (suc zero))) words message is =
    told (message_in (pos 3 ∷ words)) (λ message. Carrying (Checkpointing message)) (pos 3 ∷ words) message
    (λ message found. read-exact (pos 3 ∷ words) message found) is
of-kind (suc (suc (suc (suc zero)))) words message is =
    told (whole (taken_in words)) (λ taken. Carrying (Taking taken)) (pos 4 ∷ words) message
    (λ taken found. let was = whole-exact taken-reads words taken found in (
      ap (λ (ws : List ℤ). pos 4 ∷ ws) was.0,
      record { process = was.1.0; era = was.1.1.0; number = was.1.1.1 },
    )) is
of-kind (suc (suc (suc (suc (suc zero))))) words message is =
    told (whole (report_in words)) (λ (node, silent). Reporting node silent) (pos 5 ∷ words) message
    (λ report found. let was = whole-exact report-reads words report found in
    (ap (λ (ws : List ℤ). pos 5 ∷ ws) was.0, was.1)) is
of-kind (suc (suc (suc (suc (suc (suc zero)))))) words message is =
    told (whole (processor_in words)) (λ processor. Declaring processor) (pos 6 ∷ words) message
    (λ processor found. let was = whole-exact processor-reads words processor found in
    (ap (λ (ws : List ℤ). pos 6 ∷ ws) was.0, was.1)) is
of-kind (suc (suc (suc (suc (suc (suc (suc zero))))))) words message is =
    told (changes_in.message_in (pos 7 ∷ words)) (λ change. Changing change) (pos 7 ∷ words) message
    (λ change found. changes.read-exact (pos 7 ∷ words) change found) is
of-kind (suc (suc (suc (suc (suc (suc (suc (suc more)))))))) words message is = absurd cc

pub read-written : (words : List ℤ) (message : NodeMessage) → node_message_in words ≡ Some message → IsOf words message
read-written [] message is = absurd cc
read-written (negsuc n ∷ words) message is = absurd cc
read-written (pos kind ∷ words) message is = of-kind kind words message is

pub understood-known : (site : Site) (words : List ℤ) (message : NodeMessage) → understood site words ≡ Some message
    → (words_of message ≡ words) × Fits site message
understood-known site words message = by (node_message_in words) refl
  where
    tested : (one : NodeMessage) → node_message_in words ≡ Some one → (known : Bool) → is_known site one ≡ known
        → (if known then Some one else None) ≡ Some message → (words_of message ≡ words) × Fits site message
    tested one read false known is = absurd cc
    tested one read true known is =
        let same : one ≡ message = cc in
        let was = read-written words one read in
        subst (λ (m : NodeMessage). (words_of m ≡ words) × Fits site m) same
        (was.0, record { within = was.1; known = known })

    by : (found : Option NodeMessage) → node_message_in words ≡ found
        → option_and_then (if_known site) found ≡ Some message
        → (words_of message ≡ words) × Fits site message
    by None read is = absurd cc
    by (Some one) read is = tested one read (is_known site one) refl is
