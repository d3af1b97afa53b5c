-- Document 01, "Status and numbers": what a call is refused by, with its number. Assumes nothing.
use Rattle.std.specs.Prelude.{ℕ, Result, Ok, Err}
use Rattle.image.specs.declared.reader.Fault.{Fault}
use Rattle.image.specs.declared.reader.Fault.TheVariants as F
use Rattle.rules.specs.declared.CallRefusal.{CallRefusal}
use Rattle.rules.specs.declared.CallRefusal.TheVariants.{NoSuchSeat, NotVacant, TooLong, BadAt, TooManySlots, BadShares, TooShort, Unsound, BadSchedule, NoRoomForAnswers, Vacant}

abbrev pub call_number : CallRefusal → ℕ
-- "20, 21: load, report or clear: no such seat; load: not vacant"
call_number NoSuchSeat = 20
call_number NotVacant = 21
-- "22, 23, 24: image over 4,096 bytes; bad image, with place; r over the cell share"
call_number TooLong = 22
call_number (BadAt p) = 23
call_number TooManySlots = 24
-- "30, 31: open: counts or shares out of range; a lent buffer below its minimum"
call_number BadShares = 30
call_number TooShort = 31
-- "32": the lent state is not sound
call_number Unsound = 32
-- "33, 34: run: odd or over-long schedule; answer buffer too short"
call_number BadSchedule = 33
call_number NoRoomForAnswers = 34
-- "35: clear: the seat is vacant"
call_number Vacant = 35

-- "the place is 0 except with 23"
abbrev pub place_of : CallRefusal → ℕ
place_of NoSuchSeat = 0
place_of NotVacant = 0
place_of TooLong = 0
place_of (BadAt p) = p
place_of TooManySlots = 0
place_of BadShares = 0
place_of TooShort = 0
place_of Unsound = 0
place_of BadSchedule = 0
place_of NoRoomForAnswers = 0
place_of Vacant = 0

-- what the reader finds of an image, as a load is refused by it
abbrev pub turned_down : Fault → CallRefusal
turned_down F.TooLong = TooLong
turned_down (F.BadAt p) = BadAt p

-- the number and the place that a call answers: 0 and 0 where it is not refused
abbrev pub answered : {A : Type 0} → Result A CallRefusal → ℕ
answered (Ok x) = 0
answered (Err r) = call_number r

abbrev pub answered_at : {A : Type 0} → Result A CallRefusal → ℕ
answered_at (Ok x) = 0
answered_at (Err r) = place_of r
