-- On the parts of a sound claim a seat's code gives the rules' report. Assumes nothing.
use Prim.Native.Nat.{ℕ, ◌%◌}
use native.Mathlib.Omega.{arith}
use mathlib.Core.Path.{◌≡◌, refl, ap, ◌∙◌}
use mathlib.Core.Bool.{true}
use mathlib.Core.List.{List}
use lib.Dec.{ltb}
use lib.ListN.{length, get_elem?}
use Rattle.std.proofs.lemmas.Bool.Decides.{nat_tests}
use Rattle.laws.specs.Lists.{is_none}
use Rattle.laws.proofs.Choice.{tested}
use Rattle.rules.specs.Claim.{Claim, Cell, found, status_of}
use Rattle.rules.specs.Calls.{result_of, report}
use Rattle.rules.specs.Sound.{refusal_sound, is_bare, seat_sound}
use Rattle.cells.specs.Lent.{look_on}
use Rattle.threads.specs.Heads.{thread_in}
use Rattle.threads.specs.Row.{found_from}
use Rattle.soundness.proofs.Claims.{used-seat}
use Rattle.laying.specs.Laid.{spread, cell_tag, cell_word, head_number, laid_book}
use Rattle.laying.proofs.Fitting.{Fit}
use Rattle.laying.proofs.Cells.{at-cell}
use Rattle.laying.proofs.Heads.{thread-same}
use Rattle.laying.proofs.Search.{found-same}
use Rattle.laying.proofs.Fits.{Seated, fits}
use Rattle.book.specs.Book.{tally_in}
use Rattle.reports.specs.Report.{standing, status_in, outcome_in, position_in, report_by, report_on}
use Rattle.tying.proofs.Turns.{none-length}

-- a sound seat's refusal, vacant or not
refusal-sound : (c : Claim) → seat_sound c ≡ true → refusal_sound c ≡ true
refusal-sound c o =
    tested (is_none c.image)
    (λ n. unfold seat_sound is_bare refusal_sound in grind (arith, nat_tests))
    (λ n. (used-seat c n o).sound.refusal)

small : (c : Claim) → refusal_sound c ≡ true → c.refusal % 256 ≡ c.refusal
unfolding refusal_sound
small c e = grind (arith, nat_tests)

first_cell : (cells : List Cell) → outcome_in (found (get_elem? cells 0)) ≡ result_of cells
unfolding outcome_in found result_of
first_cell cells = grind arith

module _ (c : Claim) (f : Fit c) where
  abbrev Heads : List ℕ
  Heads = spread head_number 32 c.row

  status-same : status_in (tally_in (laid_book c)) (found_from 0 0 0 Heads) ≡ status_of c
  unfolding status_in standing status_of tally_in laid_book
  status-same = rw (none-length c.image, found-same c f 0) (grind (arith, nat_tests, none-length c.row))

  position-same : refusal_sound c ≡ true → position_in (tally_in (laid_book c)) Heads ≡ (report c).position
  unfolding position_in report tally_in laid_book thread_in refusal_sound
  position-same e = grind (arith, nat_tests, thread-same c f c.halted)

  result-same : outcome_in (look_on (spread cell_tag c.seat.cells c.cells) (spread cell_word c.seat.cells c.cells) (length c.cells) 0 0) ≡ result_of c.cells
  unfolding look_on
  result-same = ap outcome_in (at-cell c f 0 (ltb 0 (length c.cells)) refl) ∙ first_cell c.cells

pub report-same : (c : Claim) → Seated c → seat_sound c ≡ true
    → report_on (laid_book c) (spread cell_tag c.seat.cells c.cells) (spread cell_word c.seat.cells c.cells) (spread head_number 32 c.row) ≡ report c
unfolding report_on report_by report tally_in laid_book
report-same c s o =
    let f = fits c s o in
    let r = refusal-sound c o in
    rw (← status-same c f, ← position-same c f r, result-same c f, small c r)
