-- `lodging::clear_seat` meets its contract: a vacant seat is left as it is, and of any other all but the shares is wiped. Assumes nothing.
use Rattle.laying.specs.Laid.{parts}
use Rattle.lodging.proofs.Lodgings.{left-vacant, emptied-out}
use Rattle.lodging.proofs.clear_seat.Goals as goal

pub returns-then-get-eq0-clause-outcome : goal.returns-then-get-eq0-clause-outcome
returns-then-get-eq0-clause-outcome c = left-vacant (parts c.args.book.now c.args.tags.now c.args.words.now c.args.heads.now c.args.accs.now c.args.kept.now) c.get.ensures c.if-get-eq0.true

pub returns-clause-outcome : goal.returns-clause-outcome
returns-clause-outcome c = emptied-out (parts c.args.book.now c.args.tags.now c.args.words.now c.args.heads.now c.args.accs.now c.args.kept.now) c.get.ensures c.if-get-eq0.false c.start_book.ensures c.wipe.ensures c.wipe-2.ensures c.wipe-3.ensures c.wipe-4.ensures c.wipe-5.ensures
