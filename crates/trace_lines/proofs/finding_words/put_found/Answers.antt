use Rattle.std.proofs.Common.{◌≡◌, ◌++◌, OnOk, subst, sym}
use Rattle.text_pieces.proofs.Joins.{put_two}
use Rattle.trace_lines.specs.FindingWords.{found_text, from_text, takes_over_text}
use Rattle.trace_lines.specs.Names.{process_name}
use Rattle.trace_lines.specs.declared.finding.Finding.{Finding}
use Rattle.trace_lines.proofs.finding_words.put_found.Goals as goal

pub returns-in-SendsCheckpoint : goal.returns-in-SendsCheckpoint
returns-in-SendsCheckpoint c =
    subst (λ (finding : Finding). OnOk c.put-in-SendsCheckpoint.result
    (c.put-in-SendsCheckpoint.new.text
    ≡ c.args.text.now ++ found_text c.args.site.now c.args.places.now finding)) (sym c.in-SendsCheckpoint.is)
    c.put-in-SendsCheckpoint.ensures

pub returns-in-PassesCheckpoint : goal.returns-in-PassesCheckpoint
returns-in-PassesCheckpoint c =
    subst (λ (finding : Finding). OnOk c.put-in-PassesCheckpoint.result
    (c.put-in-PassesCheckpoint.new.text
    ≡ c.args.text.now ++ found_text c.args.site.now c.args.places.now finding)) (sym c.in-PassesCheckpoint.is)
    c.put-in-PassesCheckpoint.ensures

pub returns-in-SendsEverything : goal.returns-in-SendsEverything
returns-in-SendsEverything c =
    subst (λ (finding : Finding). OnOk c.put-in-SendsEverything.result
    (c.put-in-SendsEverything.new.text
    ≡ c.args.text.now ++ found_text c.args.site.now c.args.places.now finding)) (sym c.in-SendsEverything.is)
    c.put-in-SendsEverything.ensures

pub returns-in-EndsSending : goal.returns-in-EndsSending
returns-in-EndsSending c =
    subst (λ (finding : Finding). OnOk c.put-in-EndsSending.result
    (c.put-in-EndsSending.new.text
    ≡ c.args.text.now ++ found_text c.args.site.now c.args.places.now finding)) (sym c.in-EndsSending.is)
    c.put-in-EndsSending.ensures

pub returns-in_ok-put_takes_over-in-TakesOver : goal.returns-in_ok-put_takes_over-in-TakesOver
returns-in_ok-put_takes_over-in-TakesOver c =
    let taken = rw c.process_name-in-TakesOver.ensures at c.in_ok-put_takes_over-in-TakesOver.ensures in
    subst (λ (finding : Finding). OnOk c.put_from.result
    (c.put_from.new.text ≡ c.args.text.now ++ found_text c.args.site.now c.args.places.now finding))
    (sym c.in-TakesOver.is)
    (put_two c.args.text.now
    (takes_over_text (process_name c.args.site.now c.in-TakesOver.process) c.in-TakesOver.processor
    c.in-TakesOver.era)
    (from_text c.args.places.now c.in-TakesOver.process c.in-TakesOver.statement) c.put_from.new.text
    c.put_from.result taken c.put_from.ensures)

pub returns-in-Enters : goal.returns-in-Enters
returns-in-Enters c =
    subst (λ (finding : Finding). OnOk c.put_numbered-in-Enters.result
    (c.put_numbered-in-Enters.new.text
    ≡ c.args.text.now ++ found_text c.args.site.now c.args.places.now finding)) (sym c.in-Enters.is)
    (rw c.from-in-Enters.ensures at c.put_numbered-in-Enters.ensures)

pub returns-in-WouldLoseDisc : goal.returns-in-WouldLoseDisc
returns-in-WouldLoseDisc c =
    subst (λ (finding : Finding). OnOk c.put_loses.result
    (c.put_loses.new.text ≡ c.args.text.now ++ found_text c.args.site.now c.args.places.now finding))
    (sym c.in-WouldLoseDisc.is) (rw c.process_name.ensures at c.put_loses.ensures)

pub returns-in-Drive : goal.returns-in-Drive
returns-in-Drive c =
    subst (λ (finding : Finding). OnOk c.put_drive.result
    (c.put_drive.new.text ≡ c.args.text.now ++ found_text c.args.site.now c.args.places.now finding))
    (sym c.in-Drive.is) c.put_drive.ensures
