-- `image::reader::walk_code` meets its contract. The loop's invariant: the walk from here answers as the walk from the start. The measure is what is left of the image. Assumes nothing.
use mathlib.Core.Path.{sym, ◌∙◌}
use Rattle.image.proofs.Strides.{stride-next, flow-there}
use Rattle.image.proofs.Fuel.{walk-again}
use Rattle.image.proofs.reader.walk_code.Goals as goal

pub loop-end-preserved : goal.loop-end-preserved
loop-end-preserved c =
    let s = stride-next _ _ (sym c.stride_at.ensures ∙ c.in-Ok.is) in
    walk-again _ _ _ s.step (c.flow_at.ensures ∙ flow-there _ _ s.step) c.ending_at-end.ensures ∙ c.loop-end.invariant
