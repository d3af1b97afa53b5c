-- `image::reader::read_inputs` meets its contract. The loop's invariant: reading on from here answers as reading from the start, and few inputs came. The measure is what is left of the image. Assumes nothing.
use borrow.Author.Rules.{rules}
use mathlib.Core.Path.{sym, ◌∙◌}
use borrow.Author.Tests.{lt-ltb}
use Rattle.image.proofs.Places.{stands-as}
use Rattle.image.proofs.Fuel.{inputs_on}
use Rattle.image.proofs.reader.read_inputs.Goals as goal

pub loop-code-preserved : goal.loop-code-preserved
loop-code-preserved c = (search rules, sym (inputs_on _ _ _ _ (stands-as c.whole_at.ensures c.in-Ok-Input-default.is c.in-Ok-Input-default.field-0-0-is) (lt-ltb _ _ c.if-limit-inputs.false)) ∙ c.loop-code.invariant.1)
