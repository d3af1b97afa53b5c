-- `image::records::flow_at` meets its contract: a thread goes on from every kind but 00 and 17 to 19. Assumes nothing.
use native.Mathlib.Omega.{arith}
use Rattle.kinds.proofs.Onward.{on_below, on-above}
use Rattle.image.proofs.Strides.{flow-on}
use Rattle.image.proofs.records.flow_at.Goals as goal

pub returns-in_default : goal.returns-in_default
returns-in_default c = flow-on _ _ (λ body i e. on_below _ body i e (omega arith) (omega arith))

pub returns-in_default-2 : goal.returns-in_default-2
returns-in_default-2 c = flow-on _ _ (λ body i e. on-above _ body i e (omega arith))
