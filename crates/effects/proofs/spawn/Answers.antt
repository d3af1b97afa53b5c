-- `effects::spawn` meets its contract: room, then the threads and the book. Assumes nothing.
use Rattle.effects.proofs.Enacted.{spawns, no_threads}
use Rattle.effects.specs.Enacted.{parts}
use mathlib.Core.Path.{refl, ◌∙◌}
use borrow.Author.Tests.{le-ltb, lt-ltb}
use Rattle.effects.proofs.spawn.Goals as goal

pub returns-then-share-live : goal.returns-then-share-live
returns-then-share-live c = λ tags words start. let s = c.args in
    no_threads _ start _ (parts s.book.now tags words s.heads.now s.accs.now) refl c.get-live.ensures c.get-share.ensures (le-ltb _ _ c.if-share-live.true) ∙ (rw c.from.ensures at (c.refuse.ensures tags words s.heads.now s.accs.now start))

pub returns : goal.returns
returns c = λ tags words start. let s = c.args in
    spawns _ start _ (parts s.book.now tags words s.heads.now s.accs.now) refl c.get-live.ensures c.get-share.ensures (lt-ltb _ _ c.if-share-live.false) c.one_more.ensures c.spawn_record.ensures c.count_with.ensures
