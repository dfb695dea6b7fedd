-- Which processes the machine runs, and where one of them stands.
use Rattle.std.specs.List.{All}
use Rattle.std.specs.Prelude.{◌≡◌, ℕ, List, slice_get, IfSome}
use Rattle.tal_tree.specs.declared.site.ProcessSpec.{ProcessSpec}
use Rattle.process_semantics.specs.declared.point.Point.{Point}
use Rattle.process_semantics.specs.Process.{point}
use Rattle.tal_tree.specs.declared.site.Site.{Site}
use Rattle.plain_semantics.specs.Machine.{Plain}
use Rattle.plain_semantics.specs.SiteLimits.{KeepsSiteLimits}
use Rattle.processes.specs.Seen.{IsLoadableKind}

-- each process can be loaded
abbrev pub AreLoadable : List ProcessSpec → Type 0
AreLoadable specs = All (λ spec. IsLoadableKind spec.what) specs

-- the site keeps the limits, and each of its processes can be loaded
pub record IsPlayable (site : Site) : Type 0 where
  pub limits : KeepsSiteLimits site
  pub loadable : AreLoadable site.processes

-- a process of the machine, if it is there, stands at this point
abbrev pub IsAt : ℕ → Point → Plain → Type 0
IsAt number stands plain = IfSome (slice_get plain.processes number) (λ one. point one.state ≡ stands)
