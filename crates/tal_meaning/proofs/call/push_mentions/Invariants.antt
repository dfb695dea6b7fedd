use Rattle.std.proofs.Common.{◌≡◌, ◌++◌, drop}
use Rattle.tal_names.specs.Places.{further_arguments}
use Rattle.tal_meaning.specs.Calls.{items_named, files_named}
use Rattle.tal_syntax.specs.Seen.{seen_further}
use Rattle.tal_meaning.proofs.call.push_mentions.Given as goal

-- those so far and those that are left are all
abbrev pub invariant-loop-next : goal.invariant-loop-next
invariant-loop-next l = record {
  items_are : l.items ++ items_named l.scope (further_arguments (seen_further (drop l.next-index l.more)))
      ≡ l.initial.items ++ items_named l.scope (further_arguments (seen_further l.more));
  files_are : l.files ++ files_named l.scope (further_arguments (seen_further (drop l.next-index l.more)))
      ≡ l.initial.files ++ files_named l.scope (further_arguments (seen_further l.more));
}
