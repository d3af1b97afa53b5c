-- `image::starts::marks_of` meets its contract. The loop's invariant: the marks from here on are those of the whole code. The measure is what is left of the image. Assumes nothing.
use mathlib.Core.Path.{sym, ◌∙◌}
use Rattle.image.proofs.Strides.{stride-next}
use Rattle.image.proofs.Fuel.{marks-on}
use Rattle.image.proofs.starts.marks_of.Goals as goal

pub loop-behind-preserved : goal.loop-behind-preserved
loop-behind-preserved c = sym (marks-on _ _ _ (stride-next _ _ (sym c.stride_at.ensures ∙ c.in-Ok.is)).step) ∙ c.loop-behind.invariant
