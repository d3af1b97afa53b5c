-- `turn::turn` meets its contract: the gate, the thread picked, and what it asks for, done. Assumes nothing.
use Rattle.turn.proofs.Turns.{stopped, gone}
use Rattle.effects.specs.Enacted.{parts}
use Rattle.turn.proofs.turn.Goals as goal

pub returns-in-Err : goal.returns-in-Err
returns-in-Err c = let s = c.args in stopped _ _ _ (parts s.book.now s.tags.now s.words.now s.heads.now s.accs.now) c.read_book-n.ensures c.gate_of.ensures c.in-Err.is

pub returns-in-Ok : goal.returns-in-Ok
returns-in-Ok c = let s = c.args in gone _ _ _ (parts s.book.now s.tags.now s.words.now s.heads.now s.accs.now) c.read_book-n.ensures c.gate_of.ensures c.in-Ok.is c.get.ensures c.get-in-Ok.ensures c.thread_in-th.ensures c.asked-e.ensures c.perform.ensures
