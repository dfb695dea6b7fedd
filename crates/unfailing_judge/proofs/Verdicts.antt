-- What goes wrong once all acts went that can.
use Rattle.std.proofs.Common.{◌≡◌, ◌∙◌, Bool, List, [], Option, None, Some, refl, subst, sym}
use Rattle.plain_semantics.specs.Machine.{IsStill}
use Rattle.tal_tree.specs.declared.act.Act.{Act}
use Rattle.tal_tree.specs.declared.act.Shown.{Shown}
use Rattle.tal_tree.specs.declared.site.Site.{Site}
use Rattle.unfailing_judge.specs.Order.{NoneGoes, Way}
use Rattle.unfailing_judge.specs.Replays.{IsJudgedBy, IsNextIn, IsSettledOf, due_in, way_in}
use Rattle.unfailing_judge.specs.Sound.{IsInstead, IsJudged, IsShownInstead, NoneIsPossible}
use Rattle.unfailing_judge.specs.declared.replay.Replay.{Replay}
use Rattle.unfailing_judge.specs.declared.wrong.Wrong.{Wrong}
use Rattle.unfailing_judge.specs.declared.wrong.Wrong.TheVariants as wrong

at-way : (site : Site) (one other : Way) (shown : Shown) → one.plain ≡ other.plain → one.left ≡ other.left
    → IsShownInstead site one shown → IsShownInstead site other shown
at-way site one other shown plain left is = record {
  before = is.before;
  act = is.act;
  after = is.after;
  plain = is.plain;
  there = sym left ∙ is.there;
  turn = is.turn;
  first = subst (λ p. NoneIsPossible site p is.before) plain is.first;
  possible = rw (sym plain) is.possible;
}

module _ (site : Site) (acts : List Act) (shown : List Shown) (left : List Act) (replay : Replay)
    (settled : IsSettledOf site acts shown left replay) where
  abbrev pub end : Way
  end = way_in shown left replay

  instead : (due : Option Shown) → IsNextIn left replay due → IsInstead site end due
  instead None is = is
  instead (Some next) is =
      at-way site (record { plain = replay.plain.state; left = left; due = [] }) end next refl refl
      (subst (λ (at : Site). IsShownInstead at (record { plain = replay.plain.state; left = left; due = [] }) next)
      settled.on_site is)

  pub judged : (idle : Bool) (found : Option Wrong) → IsJudgedBy shown left replay idle found
      → IsJudged site acts shown idle found
  judged idle None by = record {
    order = settled.order;
    end = end;
    goes = settled.goes;
    all = by.0;
    same = by.1;
    none = λ ended. subst (λ (at : Site). IsStill at replay.plain.state) settled.on_site (by.2 ended);
  }
  judged idle (Some (wrong.Stuck stuck)) by = record {
    order = settled.order;
    end = end;
    rest = by.0;
    goes = settled.goes;
    counted = by.2 ∙ settled.counted;
    left = by.1;
    none = subst (λ (at : Site). NoneIsPossible at replay.plain.state left) settled.on_site by.3;
    apart = by.4;
  }
  judged idle (Some (wrong.Differs apart)) by = record {
    order = settled.order;
    end = end;
    goes = settled.goes;
    ended = subst (λ (at : Site). NoneGoes at replay.plain.state (due_in shown replay) left) settled.on_site
        settled.ended;
    instead = instead apart.due by.0;
    lacking = by.1;
    apart_is = by.2;
  }
  judged idle (Some wrong.Left) by = record {
    order = settled.order;
    end = end;
    goes = settled.goes;
    all = by.0;
    same = by.1;
    ended = by.2;
    left = λ still. by.3 (subst (λ (at : Site). IsStill at replay.plain.state) (sym settled.on_site) still);
  }
