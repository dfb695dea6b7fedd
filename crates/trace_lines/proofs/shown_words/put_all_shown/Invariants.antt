use Rattle.std.proofs.Common.{◌≡◌, ◌++◌, flat_map, take}
use Rattle.trace_lines.specs.ShownWords.{shown_text}
use Rattle.trace_lines.proofs.shown_words.put_all_shown.Given as goal

abbrev pub invariant-loop-one : goal.invariant-loop-one
invariant-loop-one l = l.text ≡ l.initial.text ++ flat_map (shown_text l.site) (take l.one-index l.shown)
