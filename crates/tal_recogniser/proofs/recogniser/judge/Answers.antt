use Rattle.std.proofs.Common.{◌≡◌, ◌<◌, ◌≤◌, take, Some, None, refl, sym, true≢false}
use Rattle.std.proofs.lemmas.List.{length-take-le}
use Rattle.tal_tokens.specs.gd_words.specs.declared.limits.TheConstants.{MOST_LEVELS as deepest}
use Rattle.tal_recogniser.specs.Machine.{feed, open_levels}
use Rattle.tal_recogniser.proofs.Exact.{one_on, unexpected-at, too-deep-at, reached-more, is_finished, is_unfinished}
use Rattle.tal_recogniser.proofs.recogniser.judge.Goals as goal

pub returns-then-not-branch : goal.returns-then-not-branch
returns-then-not-branch c =
    let fed : feed c.index-tokens-k.result c.loop-k.stack ≡ None = rw c.if-not-branch.true at c.in_ok-feed.ensures in
    unexpected-at deepest c.args.tokens.now c.loop-k.k c.index-tokens-k.result c.loop-k.stack c.loop-k-test.true
    (one_on c.args.tokens.now c.loop-k.k c.index-tokens-k.result c.loop-k-test.true c.index-tokens-k.is)
    c.loop-k.invariant fed

pub returns-then-levels-gt-MOST_LEVELS : goal.returns-then-levels-gt-MOST_LEVELS
returns-then-levels-gt-MOST_LEVELS c =
    let fed : feed c.index-tokens-k.result c.loop-k.stack ≡ Some c.feed.new.self =
    rw c.if-not-branch.false at c.in_ok-feed.ensures in
    let deep : deepest < open_levels c.feed.new.self = rw (← c.levels.ensures) c.if-levels-gt-MOST_LEVELS.true in
    too-deep-at deepest c.args.tokens.now c.loop-k.k c.index-tokens-k.result c.loop-k.stack c.feed.new.self
    c.loop-k-test.true
    (length-take-le c.loop-k.k c.args.tokens.now c.loop-k.auto.k-end)
    (one_on c.args.tokens.now c.loop-k.k c.index-tokens-k.result c.loop-k-test.true c.index-tokens-k.is)
    c.loop-k.invariant fed deep

pub loop-k-preserved : goal.loop-k-preserved
loop-k-preserved c =
    let fed : feed c.index-tokens-k.result c.loop-k.stack ≡ Some c.feed.new.self =
    rw c.if-not-branch.false at c.in_ok-feed.ensures in
    let few : open_levels c.feed.new.self ≤ deepest = rw (← c.levels.ensures) c.if-levels-gt-MOST_LEVELS.false in
    rw (one_on c.args.tokens.now c.loop-k.k c.index-tokens-k.result c.loop-k-test.true c.index-tokens-k.is)
    (reached-more deepest (take c.loop-k.k c.args.tokens.now) c.index-tokens-k.result c.loop-k.stack c.feed.new.self
    c.loop-k.invariant fed few)

pub returns-then-is_empty : goal.returns-then-is_empty
returns-then-is_empty c =
    is_finished deepest c.args.tokens.now c.loop-k.k c.loop-k.stack c.loop-k-test.false c.loop-k.invariant
    (c.if-is_empty.ensures.0 refl)

pub returns : goal.returns
returns c =
    is_unfinished deepest c.args.tokens.now c.loop-k.k c.loop-k.stack c.loop-k-test.false c.loop-k.invariant
    (λ e. true≢false (sym (c.if-is_empty.ensures.1 e)))
