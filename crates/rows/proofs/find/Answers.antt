-- `rows::find` meets its contract. The loop's invariant: what is found from the next four heads on is what is to be found. Assumes nothing.
use Rattle.std.proofs.Common.{arith, rules}
use Rattle.rows.proofs.Fours.{fours-near, fours-here, fours-more, fours-end}
use Rattle.rows.proofs.find.Goals as goal

pub overflow_add-result : goal.overflow_add-result
overflow_add-result c = let b = fours-near c.loop-i.invariant c.find_four.ensures c.in-Ok.is in search rules

pub returns-in-Ok : goal.returns-in-Ok
returns-in-Ok c = fours-here c.loop-i.invariant c.find_four.ensures c.in-Ok.is

pub overflow_add-before : goal.overflow_add-before
overflow_add-before c = let b = fours-more c.loop-i.invariant c.find_four.ensures c.in-Err.is in search rules

pub loop-i-preserved : goal.loop-i-preserved
loop-i-preserved c = fours-more c.loop-i.invariant c.find_four.ensures c.in-Err.is

pub returns : goal.returns
returns c = fours-end c.loop-i.invariant c.loop-i-test.false

pub returns-in-Err : goal.returns-in-Err
returns-in-Err c = fours-end (fours-more c.loop-i.invariant c.find_four.ensures c.in-Err.is) (omega arith)
