-- The least of faults, part by part.
use Rattle.std.proofs.Common.{◌≡◌, List, [], ◌∷◌, ◌++◌, Option, refl, sym, ap, ◌∙◌}
use Rattle.tal_names.specs.declared.fault.RuleFault.{RuleFault}
use Rattle.tal_names.specs.Faults.{earlier, least}

pub least-append : (so_far : Option RuleFault) (fs hs : List RuleFault)
    → least so_far (fs ++ hs) ≡ least (least so_far fs) hs
least-append so_far [] hs = refl
least-append so_far (f ∷ fs) hs = least-append (earlier so_far f) fs hs

pub two_parts : (so_far : Option RuleFault) (fs hs : List RuleFault)
    → least (least so_far fs) hs ≡ least so_far (fs ++ hs)
two_parts so_far fs hs = sym (least-append so_far fs hs)

pub three_parts : (so_far : Option RuleFault) (fs hs ks : List RuleFault)
    → least (least (least so_far fs) hs) ks ≡ least so_far (fs ++ hs ++ ks)
three_parts so_far fs hs ks =
    ap (λ (o : Option RuleFault). least o ks) (two_parts so_far fs hs) ∙ two_parts so_far (fs ++ hs) ks
