-- `opening::open` meets its contract. Assumes nothing.
use Rattle.laws.proofs.Answers.{passed}
use Rattle.opening.proofs.Openings.{pairs, goes}
use Rattle.opening.proofs.open.Goals as goal

pub write_shares-requires : goal.write_shares-requires
write_shares-requires c = pairs c.args.shares.now (passed c.may_open.ensures c.if-not-may_open.false)

pub returns-clause-outcome : goal.returns-clause-outcome
returns-clause-outcome c = goes _ _ (passed c.is_long.ensures c.if-not-is_long.false) (passed c.may_open.ensures c.if-not-may_open.false) c.wipe_front.ensures c.write_shares.ensures c.wipe_front-2.ensures c.wipe_front-3.ensures c.wipe_front-4.ensures c.wipe_front-5.ensures c.wipe_front-6.ensures
