-- Each public call on lent bytes: its answer, and every byte of every buffer afterwards. Assumes nothing.
-- A sound state is read into claims, the rules say what becomes of them, and they are written back; a refused call leaves every byte.
use Rattle.std.specs.Prelude.{ℕ, Result, Ok, Err, ◌/◌, ◌%◌, ◌&&◌, List, [], ◌∷◌, ◌++◌, map, length, drop, leb, eqb}
use Rattle.std.proofs.Math.Option.{Option, none, some}
use Rattle.std.specs.Prelude.{if◌then◌else◌}
use Rattle.rules.specs.declared.CallRefusal.{CallRefusal}
use Rattle.rules.specs.declared.Report.{Report}
use Rattle.rules.specs.Calls.{Machine, Event, loads, asks, clears, Reply, number, placed, told, blank, message, tell, after, replies, entries, Share, may_open, opened, number_in}
use Rattle.state.specs.State.{State, long, laid, claims_of}

-- ---- what a reply says in numbers

-- "the place is 0 except with 23"
unfoldable pub place_in : Reply → ℕ
place_in (number n) = 0
place_in (placed n p) = p
place_in (told n r) = 0

-- "Refused reports are zeros with result none"
unfoldable pub report_in : Reply → Report
report_in (number n) = blank
report_in (placed n p) = blank
report_in (told n r) = r

-- what a report that is not refused says
abbrev pub reported : Result Report CallRefusal → Report
reported (Ok r) = r
reported (Err e) = blank

-- ---- open

-- a lent row of shares: cells and threads of each seat in turn
unfoldable pub shares_in : List ℕ → List Share
shares_in [] = []
shares_in (cells ∷ []) = []
shares_in (cells ∷ threads ∷ ns) = record { cells = cells; threads = threads } ∷ shares_in ns

pub record Moved : Type 0 where
  pub answer : ℕ
  pub state : State

abbrev pub moved : ℕ → State → Moved
moved n s = record { answer = n; state = s }

-- "30, 31: open: counts or shares out of range; a lent buffer below its minimum (31 first)"; "opening wipes that length and leaves the rest"
unfoldable pub open_call : State → List ℕ → Moved
open_call s ns =
    if long s then (if eqb (length ns % 2) 0 && may_open (shares_in ns) then moved 0 (laid (opened 0 (shares_in ns)) s) else moved 30 s) else moved 31 s

-- ---- run

pub record Ran : Type 0 where
  pub answer : ℕ
  pub state : State
  pub answers : List ℕ

abbrev pub ran : ℕ → State → List ℕ → Ran
ran n s answers = record { answer = n; state = s; answers = answers }

-- "writes one answer byte an entry to the front of a lent buffer, leaving the rest of it untouched"
unfoldable pub over : List ℕ → List ℕ → List ℕ
over a l = a ++ drop (length a) l

unfoldable pub ran_on : Machine → State → List ℕ → List ℕ → Ran
ran_on m s schedule answers = ran 0 (laid (after m (entries schedule)) s) (over (map number_in (replies m (entries schedule))) answers)

-- "A run takes a schedule of even length up to 65,534 bytes": "33, 34: run: odd or over-long schedule; answer buffer too short"
unfoldable pub run_with : Option Machine → State → List ℕ → List ℕ → Ran
run_with none s schedule answers = ran 32 s answers
run_with (some m) s schedule answers =
    if eqb (length schedule % 2) 0 && leb (length schedule) 65534
    then (if leb (length schedule / 2) (length answers) then ran_on m s schedule answers else ran 34 s answers)
    else ran 33 s answers

unfoldable pub run_call : State → List ℕ → List ℕ → Ran
run_call s schedule answers = run_with (claims_of s) s schedule answers

-- ---- what is said to one seat

-- of a sound state
unfoldable pub said_to : Machine → State → ℕ → Event → Moved
said_to m s k e = moved (number_in (tell m (message k e)).reply) (laid (tell m (message k e)).machine s)

-- "35: clear: the seat is vacant"
unfoldable pub clear_with : Option Machine → State → ℕ → Moved
clear_with none s k = moved 32 s
clear_with (some m) s k = said_to m s k clears

unfoldable pub clear_call : State → ℕ → Moved
clear_call s k = clear_with (claims_of s) s k

pub record Loaded : Type 0 where
  pub answer : ℕ
  pub place : ℕ
  pub state : State

abbrev pub loaded : ℕ → ℕ → State → Loaded
loaded n place s = record { answer = n; place = place; state = s }

unfoldable pub loaded_in : Machine → State → ℕ → List ℕ → Loaded
loaded_in m s k image =
    loaded (number_in (tell m (message k (loads image))).reply) (place_in (tell m (message k (loads image))).reply) (laid (tell m (message k (loads image))).machine s)

-- "Number 32 comes first in load, run, report and clear, the others in numerical order."
unfoldable pub load_with : Option Machine → State → ℕ → List ℕ → Loaded
load_with none s k image = loaded 32 0 s
load_with (some m) s k image = loaded_in m s k image

unfoldable pub load_call : State → ℕ → List ℕ → Loaded
load_call s k image = load_with (claims_of s) s k image

pub record Shown : Type 0 where
  pub answer : ℕ
  pub report : Report

abbrev pub shown : ℕ → Report → Shown
shown n r = record { answer = n; report = r }

-- a report changes nothing
unfoldable pub shown_in : Machine → ℕ → Shown
shown_in m k = shown (number_in (tell m (message k asks)).reply) (report_in (tell m (message k asks)).reply)

unfoldable pub report_with : Option Machine → ℕ → Shown
report_with none k = shown 32 blank
report_with (some m) k = shown_in m k

unfoldable pub report_call : State → ℕ → Shown
report_call s k = report_with (claims_of s) k
