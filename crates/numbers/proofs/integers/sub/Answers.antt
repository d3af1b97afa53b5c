-- `numbers::integers::sub` meets its contract. Assumes nothing.
use mathlib.Core.Path.{◌∙◌}
use Rattle.laws.proofs.Words.{back}
use Rattle.numbers.proofs.Exact.{exactly_if}
use Rattle.numbers.proofs.integers.sub.Goals as goal

pub returns : goal.returns
returns c = c.ok_or.ensures.value ∙ exactly_if _ _ (rw (back _ c.ranges.a, back _ c.ranges.b) at c.checked_sub.ensures)
