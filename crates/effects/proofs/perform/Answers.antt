-- `effects::perform` meets its contract, effect by effect. Assumes nothing.
use Rattle.effects.proofs.Enacted.{goes, ends, waits, fills, empties}
use Rattle.effects.specs.Enacted.{parts}
use Rattle.effects.proofs.perform.Goals as goal

pub returns-in-Goes : goal.returns-in-Goes
returns-in-Goes c = let s = c.args in goes _ _ _ (parts s.book.now s.tags.now s.words.now s.heads.now s.accs.now) c.in-Goes.is c.put_record.ensures c.count.ensures

pub returns-in-Ends : goal.returns-in-Ends
returns-in-Ends c = let s = c.args in ends _ _ _ (parts s.book.now s.tags.now s.words.now s.heads.now s.accs.now) c.in-Ends.is c.get-live.ensures c.saturating_sub.ensures c.take_record.ensures c.count_with.ensures

pub returns-in-Waits : goal.returns-in-Waits
returns-in-Waits c = let s = c.args in waits _ _ _ (parts s.book.now s.tags.now s.words.now s.heads.now s.accs.now) c.in-Waits.is c.get-live.ensures c.wait_record.ensures c.count-in-Waits.ensures

pub returns-in-Fills : goal.returns-in-Fills
returns-in-Fills c = let s = c.args in fills _ _ _ (parts s.book.now s.tags.now s.words.now s.heads.now s.accs.now) c.in-Fills.is c.get-used.ensures c.get-live.ensures c.fill.ensures.0 c.fill.ensures.1 c.wake_record.ensures c.count-in-Fills.ensures

pub returns-in-Empties : goal.returns-in-Empties
returns-in-Empties c = let s = c.args in empties _ _ _ (parts s.book.now s.tags.now s.words.now s.heads.now s.accs.now) c.in-Empties.is c.get-used.ensures c.empty.ensures.0 c.empty.ensures.1 c.put_record-in-Empties.ensures c.count-in-Empties.ensures
