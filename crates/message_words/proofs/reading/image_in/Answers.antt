use Rattle.message_words.proofs.Images.{is-read}
use Rattle.message_words.proofs.reading.image_in.Goals as goal

pub returns : goal.returns
returns c = is-read c.args.words.now c.from_words.result c.from_words.ensures.within c.from_words.ensures.words
    c.from_words.ensures.none
