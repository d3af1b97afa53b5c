-- `image::starts::is_start` meets its contract. The loop's invariant: the search from here answers as the search from the start. The measure is what is left of the image. Assumes nothing.
use mathlib.Core.Path.{sym, ◌∙◌}
use borrow.Author.Tests.{ne_eqb}
use Rattle.image.proofs.Strides.{stride-next}
use Rattle.image.proofs.Fuel.{start-on}
use Rattle.image.proofs.starts.is_start.Goals as goal

pub loop-behind-preserved : goal.loop-behind-preserved
loop-behind-preserved c = sym (start-on _ _ _ (stride-next _ _ (sym c.stride_at.ensures ∙ c.in-Ok.is)).step (ne_eqb _ _ c.if-at-place.false)) ∙ c.loop-behind.invariant
