use Rattle.std.proofs.Common.{◌≡◌, ◌++◌, OnOk, subst, sym}
use Rattle.tal_tree.specs.declared.act.Shown.{Shown}
use Rattle.trace_lines.specs.ShownWords.{showing_text}
use Rattle.trace_lines.proofs.shown_words.put_showing.Goals as goal

pub returns-in-Write : goal.returns-in-Write
returns-in-Write c =
    let named = rw c.process_name.ensures at c.put_seen.ensures in
    subst (λ (shown : Shown). OnOk c.put_seen.result
    (c.put_seen.new.text ≡ c.args.text.now ++ showing_text c.args.site.now shown)) (sym c.in-Write.is)
    (rw c.from.ensures at named)
