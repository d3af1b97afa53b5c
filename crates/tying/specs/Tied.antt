-- The parts of a seat that a turn writes, for a claim laid out in them. Assumes nothing.
use Rattle.rules.specs.Claim.{Claim}
use Rattle.laying.specs.Laid.{spread, cell_tag, cell_word, head_number, acc_number, laid_book}
use Rattle.effects.specs.Enacted.{Parts, parts}

abbrev pub parts_of : Claim → Parts
parts_of c =
    parts (laid_book c) (spread cell_tag c.seat.cells c.cells) (spread cell_word c.seat.cells c.cells) (spread head_number 32 c.row)
    (spread acc_number 32 c.row)
