-- `lodging::load_seat` meets its contract: the image is judged, and what fits is written to each part by one call. Assumes nothing.
use Rattle.laying.specs.Laid.{parts}
use Rattle.lodging.proofs.Lodgings.{turned_away, lodged-in}
use Rattle.lodging.proofs.load_seat.Goals as goal

pub returns-in_err-layout : goal.returns-in_err-layout
returns-in_err-layout c = let s = c.args in
    turned_away _ _ (parts s.book.now s.tags.now s.words.now s.heads.now s.accs.now s.kept.now) _ c.judge.ensures c.in_err-layout.was c.from_residual.ensures

pub returns : goal.returns
returns c = let s = c.args in
    lodged-in _ _ (parts s.book.now s.tags.now s.words.now s.heads.now s.accs.now s.kept.now) c.judge.ensures c.in_ok-layout.was c.from-slots.ensures c.low32.ensures c.low32-2.ensures c.start_book.ensures c.write_inputs.ensures c.write_root.ensures c.overlay.ensures
