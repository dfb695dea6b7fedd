use Rattle.path_semantics.proofs.ToldPlaces.{led-remains, places-told}
use Rattle.path_semantics.proofs.laws.places_are_told.Goals as goal

pub returns : goal.returns
returns c = record {
  remains = λ program path stand leads. led-remains program path stand leads;
  told = λ program one other numbered first second same. places-told program numbered one other first second same;
  regular = λ program regular. record {
    distinct = λ k procedure there. (regular.procedures k procedure there).distinct;
    positive = λ k procedure there. (regular.procedures k procedure there).positive;
  };
}
