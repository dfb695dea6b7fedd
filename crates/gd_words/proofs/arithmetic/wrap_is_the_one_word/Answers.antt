use Rattle.gd_words.proofs.OneWord.{is_wrap}
use Rattle.gd_words.proofs.arithmetic.wrap_is_the_one_word.Goals as goal

pub returns-clause-is : goal.returns-clause-is
returns-clause-is c = is_wrap
