use Rattle.std.proofs.Common.{◌≡◌, false, None, sym, ap, ◌∙◌, rules}
use Rattle.tal_names.specs.Found.{place_in}
use Rattle.tal_names.specs.Names.{with_name, is_declared}
use Rattle.tal_names.proofs.Lookups.{last-place, declared-by, declared-there, declared-old, declared-new}
use Rattle.tal_names.proofs.names.Names.declare.Goals as goal

pub invariant_of-self-in-Vacant : goal.invariant_of-self-in-Vacant
invariant_of-self-in-Vacant c = λ name.
    let none = rw c.in-Vacant.is at c.in_ok-self-inside.ensures.found in
    let fresh : is_declared c.args.name c.self.inside.declared ≡ false =
    declared-by c.self.inside.places c.self.inside.declared c.args.name None none (c.self.invariant c.args.name) in
    let last = last-place c.self.inside.places c.self.inside.declared c.args.name name c.args.meaning fresh
    (c.self.invariant name) in
    (search rules) ∙ last ∙ ap (place_in name) (sym c.in_ok-push-in-Vacant.ensures.ok)

pub returns-in-Occupied : goal.returns-in-Occupied
returns-in-Occupied c =
    let some = rw c.in-Occupied.is at c.in_ok-self-inside.ensures.found in
    let old = declared-there c.self.inside.places c.self.inside.declared c.args.name some.0
    (c.self.invariant c.args.name) in
    record {
      ok = sym (declared-old c.args.name c.args.meaning c.self.inside.declared old)
          ∙ ap (λ ds. with_name ds c.args.name c.args.meaning) c.self.view_is;
      before = sym old ∙ ap (is_declared c.args.name) c.self.view_is;
    }

pub returns-in_ok-push-in-Vacant : goal.returns-in_ok-push-in-Vacant
returns-in_ok-push-in-Vacant c =
    let none = rw c.in-Vacant.is at c.in_ok-self-inside.ensures.found in
    let fresh : is_declared c.args.name c.self.inside.declared ≡ false =
    declared-by c.self.inside.places c.self.inside.declared c.args.name None none (c.self.invariant c.args.name) in
    record {
      ok = c.in_ok-push-in-Vacant.ensures.ok ∙ sym
          (declared-new c.args.name c.args.meaning c.self.inside.declared fresh)
          ∙ ap (λ ds. with_name ds c.args.name c.args.meaning) c.self.view_is;
      before = sym fresh ∙ ap (is_declared c.args.name) c.self.view_is;
    }
