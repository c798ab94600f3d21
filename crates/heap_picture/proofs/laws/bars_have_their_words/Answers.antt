use Rattle.heap_picture.proofs.BarWords.{bar_has_words, in_cells, words_have_bar}
use Rattle.heap_picture.proofs.laws.bars_have_their_words.Goals as goal

pub returns-clause-words : goal.returns-clause-words
returns-clause-words c blocks p x y lies most = (bar_has_words p x y most lies.medium lies.large, words_have_bar p x y most lies.medium lies.large)

pub returns-clause-cells : goal.returns-clause-cells
returns-clause-cells c blocks p x y lies most covers = in_cells blocks p x y lies most (bar_has_words p x y most lies.medium lies.large covers)
