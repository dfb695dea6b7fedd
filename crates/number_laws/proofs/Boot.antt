-- What a process has at its beginning: no number is greater than it must be.
use Rattle.std.proofs.Common.{◌≡◌, ◌≤◌, ℕ, List, [], ◌∷◌, length, map, refl, arith}
use Rattle.tal_tree.specs.declared.site.Kind.{Kind}
use Rattle.tal_tree.specs.declared.site.Kind.TheVariants as kind
use Rattle.tal_tree.specs.declared.site.OpenerSpec.{OpenerSpec}
use Rattle.tal_tree.specs.declared.site.ProcessSpec.{ProcessSpec}
use Rattle.tal_tree.specs.declared.site.Site.{Site}
use Rattle.process_semantics.specs.Process.{start_of}
use Rattle.plain_semantics.specs.Openers.{files_of, openers_of}
use Rattle.checkpoint_image.specs.Behaving.{last_write_of}
use Rattle.world_semantics.specs.Core.{core_at_boot}
use Rattle.number_laws.proofs.Each.{each-always, each-map, each-replicate}
use Rattle.number_laws.proofs.Within.{CoreWithin, kept_in, serves}

first-write : (what : Kind) → last_write_of (start_of what) ≤ 0
first-write (kind.Disc sectors mirrored) = omega arith
first-write (kind.Pair program) = omega arith

none-kept : (openers : List OpenerSpec) → kept_in (map (λ opener. record { taken = 0; kept = [] }) openers) ≡ 0
none-kept [] = refl
none-kept (opener ∷ openers) = let rest = none-kept openers in omega (arith, rest)

pub boot-core : (site : Site) (number : ℕ) (spec : ProcessSpec)
    → CoreWithin 0 (serves (start_of spec.what)) (core_at_boot site number spec)
boot-core site number spec = record {
  state = (refl, first-write spec.what);
  next = each-replicate _ (length (files_of spec.what)) 1 (omega arith);
  taken = each-map _ _ (openers_of site number) (each-always _ (λ opener. omega arith) (openers_of site number));
  kept = let none = none-kept (openers_of site number) in omega (arith, none);
}
