-- `image::starts::first_astray` meets its contract. The loop's invariant: the search from here answers as the search from the start. The measure is what is left of the image. Assumes nothing.
use mathlib.Core.Path.{sym, ◌∙◌}
use Rattle.image.proofs.Steps.{astray-here}
use Rattle.image.proofs.Strides.{stride-next, flow-there}
use Rattle.image.proofs.Fuel.{astray-on}
use Rattle.image.proofs.Marks.{told}
use Rattle.image.proofs.starts.first_astray.Goals as goal

pub loop-behind-preserved : goal.loop-behind-preserved
loop-behind-preserved c =
    let s = stride-next _ _ (sym c.stride_at.ensures ∙ c.in-Ok.is) in
    sym (astray-on _ _ _ s.step (told _ _ c.requires c.marks_of-row.ensures (c.flow_at.ensures ∙ flow-there _ _ s.step) c.targets_marked.ensures ∙ c.if-not-targets_marked.false)) ∙ c.loop-behind.invariant

pub returns-then-not-targets_marked : goal.returns-then-not-targets_marked
returns-then-not-targets_marked c =
    let s = stride-next _ _ (sym c.stride_at.ensures ∙ c.in-Ok.is) in
    sym (astray-here _ _ _ s.step (told _ _ c.requires c.marks_of-row.ensures (c.flow_at.ensures ∙ flow-there _ _ s.step) c.targets_marked.ensures ∙ c.if-not-targets_marked.true) _) ∙ c.loop-behind.invariant
