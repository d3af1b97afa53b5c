-- `effects::refuse` meets its contract, whatever the other parts hold. Assumes nothing.
use mathlib.Core.Path.{refl}
use Rattle.effects.proofs.Enacted.{refuses}
use Rattle.effects.specs.Enacted.{parts}
use Rattle.effects.proofs.refuse.Goals as goal

pub returns : goal.returns
returns c = λ tags words heads accs start. refuses _ start _ (parts c.args.book.now tags words heads accs) refl c.count_refused.ensures
