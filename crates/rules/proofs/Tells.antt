-- A call's answer is told whole by its number, its place and what it holds: no two refusals share number and place. Assumes nothing.
use Prim.Native.Nat.{ℕ}
use mathlib.Core.Path.{◌≡◌, refl, sym, ◌∙◌}
use lib.Dec.{eqb}
use Rattle.std.specs.Prelude.{Result, Ok, Err, if◌then◌else◌}
use Rattle.rules.specs.declared.CallRefusal.{CallRefusal}
use Rattle.rules.specs.declared.CallRefusal.TheVariants.{NoSuchSeat, NotVacant, TooLong, BadAt, TooManySlots, BadShares, TooShort, Unsound, BadSchedule, NoRoomForAnswers, Vacant}
use Rattle.rules.specs.Refused.{answered, answered_at}

module _ {A : Type 0} where
  -- what an answer holds; d where it is a refusal
  abbrev pub held : A → Result A CallRefusal → A
  held d (Ok x) = x
  held d (Err r) = d

  -- the answer with number n and place p; it holds x where it is no refusal
  abbrev answer_of : A → ℕ → ℕ → Result A CallRefusal
  answer_of x n p =
      if eqb n 0 then Ok x
      else Err (
      if eqb n 20 then NoSuchSeat
      else if eqb n 21 then NotVacant
      else if eqb n 22 then TooLong
      else if eqb n 23 then BadAt p
      else if eqb n 24 then TooManySlots
      else if eqb n 30 then BadShares
      else if eqb n 31 then TooShort
      else if eqb n 32 then Unsound
      else if eqb n 33 then BadSchedule
      else if eqb n 34 then NoRoomForAnswers
      else Vacant)

  told_back : (d : A) (a : Result A CallRefusal) → answer_of (held d a) (answered a) (answered_at a) ≡ a
  told_back d (Ok x) = refl
  told_back d (Err NoSuchSeat) = refl
  told_back d (Err NotVacant) = refl
  told_back d (Err TooLong) = refl
  told_back d (Err (BadAt p)) = refl
  told_back d (Err TooManySlots) = refl
  told_back d (Err BadShares) = refl
  told_back d (Err TooShort) = refl
  told_back d (Err Unsound) = refl
  told_back d (Err BadSchedule) = refl
  told_back d (Err NoRoomForAnswers) = refl
  told_back d (Err Vacant) = refl

  pub same-answer : (d : A) {a b : Result A CallRefusal} → answered a ≡ answered b → answered_at a ≡ answered_at b → held d a ≡ held d b → a ≡ b
  same-answer d {a} {b} e f h = sym (told_back d a) ∙ rw (e, f, h) (told_back d b)
