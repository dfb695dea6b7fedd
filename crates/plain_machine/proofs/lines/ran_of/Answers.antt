use Rattle.std.proofs.Common.{◌≡◌, ◌+◌, ◌<◌, ℕ, List, ◌∷◌, drop, drop-cons, add-one, get_or, length, ap, sym, ◌∙◌}
use Rattle.std.proofs.Common.{arith}
use Rattle.tal_tree.specs.declared.site.Site.{Site}
use Rattle.schedule.specs.declared.line.Line.{Line}
use Rattle.plain_machine.specs.Lines.{line_played, lines_played}
use Rattle.plain_machine.specs.Rounds.{Ran}
use Rattle.plain_machine.specs.Writes.{most_write, line_acts, lines_acts}
use Rattle.plain_machine.proofs.Writes.{line-within, start-none}
use Rattle.plain_machine.proofs.lines.ran_of.Goals as goal

pub loop-line-init : goal.loop-line-init
loop-line-init c = (
  ap (lines_played c.args.site.now c.args.lines.now) (sym c.in_ok-ran.ensures),
  omega (
    arith,
    c.requires.room,
    start-none c.args.site.now,
    ap (λ (ran : Ran). most_write ran.plain.processes) c.in_ok-ran.ensures,
  ),
)

-- a line is played, and the lines after it are left
module _ (site wires : Site) (lines : List Line) (k : ℕ) (other : Line) (ran new : Ran) (same : wires ≡ site)
    (within : k < length lines)
    (played : new ≡ line_played wires (get_or lines k other) ran) where
  abbrev line : Line
  line = get_or lines k other

  split : drop k lines ≡ line ∷ drop (k + 1) lines
  split = drop-cons lines k other within ∙ ap (λ j. line ∷ drop j lines) (sym (add-one k))

  rest-played : lines_played site (drop k lines) ran ≡ lines_played site (drop (k + 1) lines) new
  rest-played =
      ap (λ ls. lines_played site ls ran) split
      ∙ ap (lines_played site (drop (k + 1) lines)) (ap (λ w. line_played w line ran) (sym same) ∙ sym played)

  rest-within : most_write ran.plain.processes + lines_acts site (drop k lines) < 4294967296
      → most_write new.plain.processes + lines_acts site (drop (k + 1) lines) < 4294967296
  rest-within room =
      omega (
        arith,
        room,
        ap (lines_acts site) split,
        line-within wires line ran,
        ap (λ (ran : Ran). most_write ran.plain.processes) played,
        ap (λ w. line_acts w line) same,
      )

pub loop-line-preserved : goal.loop-line-preserved
loop-line-preserved c = (
  c.loop-line.invariant.0
      ∙ rest-played c.args.site.now c.args.wires.now c.args.lines.now c.loop-line.line-index _ c.loop-line.ran
      c.play.new.self c.requires.wires c.loop-line-test.true
      c.in_ok-play.ensures,
  rest-within c.args.site.now c.args.wires.now c.args.lines.now c.loop-line.line-index _ c.loop-line.ran
      c.play.new.self c.requires.wires c.loop-line-test.true
      c.in_ok-play.ensures c.loop-line.invariant.1,
)
