-- The limits of a site as they are counted; only the clauses of private functions cite it.
use Rattle.std.specs.Prelude.{Bool, ◌&&◌, nat_le, List, length}
use Rattle.std.specs.List.{list_all}
use Rattle.process_semantics.specs.tal_tree.specs.declared.site.ProcessSpec.{ProcessSpec}
use Rattle.process_semantics.specs.tal_tree.specs.declared.site.Site.{Site}
use Rattle.process_semantics.specs.tal_tree.specs.declared.site.TerminalSpec.{TerminalSpec}
use Rattle.plain_semantics.specs.Openers.{files_of}
use Rattle.process_semantics.specs.gd_words.specs.declared.limits.TheConstants.{MOST_FILES, MOST_PROCESSES}
use Rattle.process_semantics.specs.gd_words.specs.declared.limits.TheConstants.{MOST_REQUESTS, MOST_TERMINALS}

abbrev pub have_few_files : List ProcessSpec → Bool
have_few_files specs = list_all (λ spec. nat_le (length (files_of spec.what)) MOST_FILES) specs

abbrev pub have_few_requests : List TerminalSpec → Bool
have_few_requests specs = list_all (λ spec. nat_le (length spec.requests) MOST_REQUESTS) specs

abbrev pub is_small : Site → Bool
is_small site = nat_le (length site.processes) MOST_PROCESSES && nat_le (length site.terminals) MOST_TERMINALS
    && have_few_files site.processes && have_few_requests site.terminals
