-- `effects::make` meets its contract: room, then the cells, the thread and the book. Assumes nothing.
use Rattle.effects.proofs.Enacted.{makes, no_cells}
use Rattle.effects.specs.Enacted.{parts}
use mathlib.Core.Path.{refl, ◌∙◌}
use borrow.Author.Tests.{lt-leb, le-leb}
use Rattle.effects.proofs.make.Goals as goal

pub returns-then-cells-used : goal.returns-then-cells-used
returns-then-cells-used c = λ words start. let s = c.args in
    no_cells _ start _ (parts s.book.now s.tags.now words s.heads.now s.accs.now) refl c.get-used.ensures c.get-cells.ensures (lt-leb _ _ c.if-cells-used.true) ∙ (rw c.from.ensures at (c.refuse.ensures s.tags.now words s.heads.now s.accs.now start))

pub returns : goal.returns
returns c = λ words start. let s = c.args in
    makes _ start _ (parts s.book.now s.tags.now words s.heads.now s.accs.now) refl c.get-used.ensures c.get-cells.ensures (le-leb _ _ c.if-cells-used.false) (rw c.from-2.ensures at c.sum_or.ensures) c.make.ensures c.put_record.ensures c.count_with.ensures
