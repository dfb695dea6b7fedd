-- Printed values of a list read back as themselves.
use Rattle.std.proofs.Common.{ℕ, List, [], ◌∷◌, refl, ap, ◌∙◌, arith}
use Rattle.tal_tree.specs.declared.program.Program.{Program}
use Rattle.tal_tokens.specs.declared.token.Token.TheVariants as tok
use Rattle.tal_syntax.specs.Grammar as g
use Rattle.tal_syntax.specs.Nesting.{nest_values}
use Rattle.tal_names.specs.declared.meaning.Wanted.TheVariants.{Value}
use Rattle.tal_names.specs.declared.scope.Scope.{Scope}
use Rattle.tal_names.specs.Places.{first_of_sum}
use Rattle.tal_pieces.specs.Printed.Expressions.{more_values}
use Rattle.tal_pieces.proofs.Values.ValueLists.{ListsReadBack}
use Rattle.tal_pieces.proofs.Values.Back.{first, ends, values_read_back}
use Rattle.tal_faultless.proofs.Common.Faultless.{nils}

pub lists_read_back : (p : Program) (locals : List (List ℕ)) (s : Scope) → ListsReadBack p locals s
lists_read_back p locals s [] ks tokens h a = record {
  syntax = g.no_values;
  rest = tokens;
  front = refl;
  later = a;
  same = refl;
  count = refl;
  faultless = refl;
  shallow = λ n most levels room low held. held;
}
lists_read_back p locals s (e ∷ es) ks tokens h a =
    let f = first a in
    let b = values_read_back p locals s e (more_values p locals es ks) f.rest h.0 f.later in
    let more = lists_read_back p locals s es ks b.rest h.1 b.later in
    record {
      syntax = g.more_values f.at (g.expr (g.both (g.relation b.syntax g.alone) g.no_ands) g.no_ors) more.syntax;
      rest = more.rest;
      front = f.is ∙ ap (λ ts. tok.Comma f.at ∷ ts) (b.front ∙ ap (g.of_sum b.syntax) more.front);
      later = more.later;
      same = λ i. b.same i ∷ more.same i;
      count = omega (arith, more.count);
      faultless = nils (ends (ends (ends (b.faultless (Value (first_of_sum b.syntax)))))) more.faultless;
      shallow = λ n most levels room low held. (
        room,
        b.shallow n most (nest_values n more.syntax levels) (omega (arith, low))
            (more.shallow n most levels room (omega (arith, low)) held),
      );
    }
