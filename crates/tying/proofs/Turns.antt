-- On the parts of a sound claim a seat's code does the rules' turn. Assumes nothing.
use Prim.Native.Nat.{ℕ, ◌<◌}
use native.Mathlib.Omega.{arith}
use mathlib.Core.Path.{◌≡◌}
use mathlib.Core.Bool.{true, not}
use mathlib.Core.List.{List}
use lib.Dec.{ltb, eqb}
use lib.ListN.{length, take}
use Rattle.std.specs.Prelude.{if◌then◌else◌, Result, Ok, Err}
use Rattle.std.proofs.lemmas.Bool.Decides.{nat_tests}
use Rattle.laws.specs.Lists.{is_none}
use Rattle.laws.proofs.Every.{all-get}
use Rattle.rules.specs.declared.Answer.{Answer}
use Rattle.rules.specs.declared.Answer.TheVariants.{NotRunning, StepsSpent, NoSuchPick}
use Rattle.rules.specs.Claim.{Claim, nobody, status_of, ready_count, seek}
use Rattle.rules.specs.Sound.{seat_sound}
use Rattle.rules.specs.Turn as Rules
use Rattle.rules.specs.Turn.{is_running, effect_at, answer_of, ran, turn}
use Rattle.soundness.proofs.Claims.{InUse, used-seat, promise}
use Rattle.soundness.proofs.Rows.{seek-picked}
use Rattle.threads.specs.Row.{found_from}
use Rattle.laying.specs.Laid.{spread, head_number, laid_book}
use Rattle.laying.proofs.Fitting.{Fit, has_room}
use Rattle.laying.proofs.Search.{live-found}
use Rattle.laying.proofs.Fits.{Seated, fits}
use Rattle.book.specs.Book.{tally_in}
use Rattle.effects.specs.Enacted.{Turned, turned}
use Rattle.turn.specs.Turn.{gate_by, gate_of, passed, turn_on}
use Rattle.tying.specs.Tied.{parts_of}
use Rattle.tying.proofs.Effects.{effect-same}
use Rattle.tying.proofs.Books.{perform-same}

pub none-length : {A : Type 0} (xs : List A) → eqb (length xs) 0 ≡ is_none xs
none-length xs = grind (arith, nat_tests)

-- a turn of the rules, laid out
abbrev pub told : Rules.Turned → Turned
told t = turned t.answer (parts_of t.claim)

-- the rules' tests, in their order
unfoldable pub gate_for : Claim → ℕ → Result ℕ Answer
gate_for c pick =
    if not (is_running (status_of c)) then Err NotRunning else
    (if eqb c.steps 4294967295 then Err StepsSpent else
    (if not (ltb pick (ready_count c)) then Err NoSuchPick else Ok (seek c.row pick)))

module _ (c : Claim) (f : Fit c) (pick : ℕ) where
  pub gate_same : gate_of (tally_in (laid_book c)) (found_from pick 0 0 (take (tally_in (laid_book c)).live (spread head_number 32 c.row))) ≡ gate_for c pick
  unfolding gate_of gate_by gate_for tally_in laid_book status_of is_running
  gate_same = rw (none-length c.image, live-found c f pick) (grind (arith, nat_tests))

  ran-same : InUse c → pick < ready_count c → c.steps < 4294967295 → passed (Ok (seek c.row pick)) c.image c.seat.start (parts_of c) ≡ told (ran c (seek c.row pick))
  unfolding passed ran ready_count
  ran-same u h s =
      let i = seek c.row pick in
      let m = (seek-picked c.row pick h).within in
      let p = promise c.image u.sound.bytes u.reads in
      let at = (all-get i nobody u.sound.row m).runs.at in
      rw (effect-same c f u.reads p i m at, perform-same c f i m s (effect_at c i) (has_room c f i))

  passed-same : (is_running (status_of c) ≡ true → InUse c) → passed (gate_for c pick) c.image c.seat.start (parts_of c) ≡ told (turn c pick)
  unfolding gate_for turn passed
  passed-same u = let s = f.steps in grind (arith, nat_tests, ran-same)

in_use : (c : Claim) → seat_sound c ≡ true → is_running (status_of c) ≡ true → InUse c
unfolding status_of is_running
in_use c o e = used-seat c (grind arith) o

pub turn-same : (c : Claim) (pick : ℕ) → Seated c → seat_sound c ≡ true
    → turn_on c.image c.seat.start pick (parts_of c) ≡ turned (turn c pick).answer (parts_of (turn c pick).claim)
unfolding turn_on
turn-same c pick s o = rw (gate_same c (fits c s o) pick) (passed-same c (fits c s o) pick (in_use c o))
