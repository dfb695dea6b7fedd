use Rattle.std.proofs.Common.{◌≡◌, ◌++◌, map, take}
use Rattle.trace_lines.specs.ShownWords.{showing_text}
use Rattle.trace_forms.proofs.lines.add_shown.Given as goal

abbrev pub invariant-loop-one : goal.invariant-loop-one
invariant-loop-one l = l.texts ≡ l.initial.texts ++ map (showing_text l.site) (take l.one-index l.shown)
