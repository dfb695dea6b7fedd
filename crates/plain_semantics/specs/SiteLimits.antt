-- The limits of a site on which its places rest: they keep within the numbers by which acts and openers name them.
use Rattle.std.specs.Prelude.{◌≤◌, length}
use Rattle.std.specs.List.{All}
use Rattle.process_semantics.specs.tal_tree.specs.declared.site.Site.{Site}
use Rattle.plain_semantics.specs.Openers.{files_of}
use Rattle.process_semantics.specs.gd_words.specs.declared.limits.TheConstants.{MOST_FILES, MOST_PROCESSES}
use Rattle.process_semantics.specs.gd_words.specs.declared.limits.TheConstants.{MOST_REQUESTS, MOST_TERMINALS}

-- at most 16 processes and 16 terminals, programs with at most 8 files each, and terminals with at most 1,000 requests
-- each
pub record KeepsSiteLimits (site : Site) : Type 0 where
  pub processes : length site.processes ≤ MOST_PROCESSES
  pub terminals : length site.terminals ≤ MOST_TERMINALS
  pub files : All (λ spec. length (files_of spec.what) ≤ MOST_FILES) site.processes
  pub requests : All (λ spec. length spec.requests ≤ MOST_REQUESTS) site.terminals
