use Rattle.advice_search.proofs.Answering.{least-lists, lines-are, numbers-are}
use Rattle.advice_search.proofs.advising.advise_by.Goals as goal

pub returns : goal.returns
returns c =
    let program = c.args.program.now in
    let limits = c.requires.limits in
    let regular = c.requires.regular in
    let items = c.find_items.new.items.sets.items in
    let files = c.find_depths.new.files.sets.items in
    let items_due = c.in_ok-find_items.ensures.due in
    let files_due = c.in_ok-depths.ensures.due in
    let found = c.in_ok-depths.ensures.found in
    let lists = c.in_ok-lists.lists in
    record {
      bounds = c.requires.bounds;
      input = c.in_ok-try_input.ensures.tried.0;
      numbers = numbers-are program limits regular items files items_due files_due lists c.in_ok-lists.ensures;
      lines = lines-are program limits regular items files items_due files_due lists c.in_ok-lists.ensures;
      lists = least-lists program limits regular items files items_due files_due lists c.in_ok-lists.ensures;
      count = found.1;
      depths = found.0.least;
      few = found.0.few;
    }
