-- `turn::asked` meets its contract: the instruction is fetched and decided. Assumes nothing.
use Rattle.turn.proofs.Turns.{asks, asks-end}
use Rattle.turn.proofs.asked.Goals as goal

pub returns-in-Some : goal.returns-in-Some
returns-in-Some c = let s = c.args in asks s.image.now _ s.n _ _ s.th c.fetch.ensures c.in-Some.is c.low16.ensures c.choose.ensures

pub returns-in-None : goal.returns-in-None
returns-in-None c = let s = c.args in asks-end s.image.now _ s.n s.tags.now s.words.now s.th c.fetch.ensures c.in-None.is
