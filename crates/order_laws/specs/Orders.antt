-- Acts in any order in which each process and each terminal keeps its own.
use Rattle.std.specs.Prelude.{◌≡◌, Bool, true, List, Some}
use Rattle.plain_semantics.specs.Machine.{IsStill, Plain, made_all, plain_start}
use Rattle.tal_tree.specs.declared.act.Act.{Act}
use Rattle.tal_tree.specs.declared.act.Shown.{Shown}
use Rattle.tal_tree.specs.declared.site.Site.{Site}
use Rattle.unfailing_judge.specs.Turns.{KeepsTurns}

-- in this order unfailing processes can do all that the run kept, and show all that it showed; and if the run ended
-- idle, no act is possible after that
pub record IsSoundIn (site : Site) (acts : List Act) (shown : List Shown) (idle : Bool) (order : List Act) : Type 0
  where
    pub turns : KeepsTurns acts order
    pub end : Plain
    pub possible : made_all site (plain_start site) order ≡ Some (record { plain = end; shown = shown })
    pub none : idle ≡ true → IsStill site end
