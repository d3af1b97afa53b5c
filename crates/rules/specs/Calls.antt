-- Document 01: open, load, run, report and clear, as what is said to seats and what they answer. Assumes nothing.
use Rattle.std.specs.Prelude.{ℕ, Option, Some, None, Ok, Err, ◌+◌, ◌-◌, Bool, ◌&&◌, List, [], ◌∷◌, ◌++◌, map, length, get_or, set, replicate, leb, ltb, eqb}
use Rattle.std.specs.Prelude.{if◌then◌else◌}
use Rattle.laws.specs.Lists.{all, is_none}
use Rattle.value.specs.declared.Value.{Value}
use Rattle.value.specs.declared.Value.TheVariants.{Nil}
use Rattle.image.specs.Records.{inputs}
use Rattle.image.specs.Reading.{Verdict, read_image, number_of, place_of}
use Rattle.rules.specs.declared.Kind.TheVariants.{Icell}
use Rattle.rules.specs.declared.Status.TheVariants.{Vacant}
use Rattle.rules.specs.declared.Report.{Report}
use Rattle.rules.specs.Decide.{thread}
use Rattle.rules.specs.Claim.{Seat, Claim, Cell, empty, full, readied, thread_at, status_of}
use Rattle.rules.specs.Turn.{Turned, turn}

-- ---- one seat

-- what opening gives a seat
abbrev pub bare : Seat → Claim
bare s = record { seat = s; image = []; cells = []; row = []; refusal = 0; halted = 0; steps = 0 }

-- "Loading makes r empty I-cells at the region's start, fills the inputs, and makes one ready thread: position 0, frame at the region's start, accumulator nil."
unfoldable pub root_frame : ℕ → List Value → List Cell
root_frame r vs = empty Icell ∷ map (full Icell) vs ++ replicate (r - 1 - length vs) (empty Icell)

unfoldable pub loaded : Seat → List ℕ → ℕ → ℕ → Claim
loaded s image r n =
    record {
      seat = s;
      image = image;
      cells = root_frame r (inputs n image);
      row = readied (thread 0 s.start Nil) ∷ [];
      refusal = 0;
      halted = 0;
      steps = 0;
    }

-- the claim after a load, with the number and the place that it answers
pub record Loading : Type 0 where
  pub claim : Claim
  pub number : ℕ
  pub place : ℕ

abbrev pub loading : Claim → ℕ → ℕ → Loading
loading c n p = record { claim = c; number = n; place = p }

-- "22, 23, 24: image over 4,096 bytes; bad image, with place; r over the cell share"
unfoldable pub load_by : Claim → List ℕ → Verdict → Loading
load_by c image (Err f) = loading c (number_of (Err f)) (place_of (Err f))
load_by c image (Ok g) = if leb g.slots c.seat.cells then loading (loaded c.seat image g.slots g.inputs) 0 0 else loading c 24 0

-- "21: load: not vacant"
unfoldable pub load : Claim → List ℕ → Loading
load c image = if is_none c.image then load_by c image (read_image image) else loading c 21 0

-- "35: clear: the seat is vacant"; "Clearing a seat in any status but vacant brings back what opening gave it."
unfoldable pub clear : Claim → Turned
clear c = if is_none c.image then record { claim = c; answer = 35 } else record { claim = bare c.seat; answer = 0 }

-- "The claim's result is cell 0 of that frame, if full."
unfoldable pub result_of : List Cell → Option Value
result_of [] = None
result_of (empty k ∷ cs) = None
result_of (full k v ∷ cs) = Some v

-- "A report gives status, refusal, position, cells used, live threads, steps, result; position and refusal are 0 unless refused."
unfoldable pub report : Claim → Report
report c =
    record {
      status = status_of c;
      refusal = c.refusal;
      position = if eqb c.refusal 0 then 0 else (thread_at c c.halted).position;
      used = length c.cells;
      live = length c.row;
      steps = c.steps;
      result = result_of c.cells;
    }

-- "Refused reports are zeros with result none, and so is a vacant seat's."
unfoldable pub blank : Report
blank = record { status = Vacant; refusal = 0; position = 0; used = 0; live = 0; steps = 0; result = None }

-- ---- what can be said to a seat, and what is answered

pub data Event : Type 0 where
  picks : ℕ → Event
  loads : List ℕ → Event
  asks clears : Event

pub data Reply : Type 0 where
  number : ℕ → Reply
  placed : ℕ → ℕ → Reply
  told : ℕ → Report → Reply

-- the number in a reply
unfoldable pub number_in : Reply → ℕ
number_in (number n) = n
number_in (placed n p) = n
number_in (told n r) = n

pub record Heard : Type 0 where
  pub claim : Claim
  pub reply : Reply

abbrev pub heard : Claim → Reply → Heard
heard c r = record { claim = c; reply = r }

-- one seat hears one thing: nothing but its claim and the event is looked at
unfoldable pub hear : Claim → Event → Heard
hear c (picks p) = heard (turn c p).claim (number (turn c p).answer)
hear c (loads image) = heard (load c image).claim (placed (load c image).number (load c image).place)
hear c asks = heard c (told 0 (report c))
hear c clears = heard (clear c).claim (number (clear c).answer)

-- "4: no such seat"; "20: load, report or clear: no such seat"
unfoldable pub absent : Event → Reply
absent (picks p) = number 4
absent (loads image) = placed 20 0
absent asks = told 20 blank
absent clears = number 20

-- ---- the machine

abbrev pub Machine : Type 0
Machine = List Claim

abbrev nowhere : Seat
nowhere = record { cells = 0; threads = 0; start = 0 }

abbrev pub claim_at : Machine → ℕ → Claim
claim_at m k = get_or m k (bare nowhere)

pub record Message : Type 0 where
  pub to : ℕ
  pub says : Event

abbrev pub message : ℕ → Event → Message
message k e = record { to = k; says = e }

pub record Told : Type 0 where
  pub machine : Machine
  pub reply : Reply

unfoldable pub tell : Machine → Message → Told
tell m e =
    if ltb e.to (length m)
    then record { machine = set m e.to (hear (claim_at m e.to) e.says).claim; reply = (hear (claim_at m e.to) e.says).reply }
    else record { machine = m; reply = absent e.says }

-- one after the other
unfoldable pub after : Machine → List Message → Machine
after m [] = m
after m (e ∷ es) = after (tell m e).machine es

unfoldable pub replies : Machine → List Message → List Reply
replies m [] = []
replies m (e ∷ es) = (tell m e).reply ∷ replies (tell m e).machine es

-- "An entry is two bytes: seat, pick."
unfoldable pub entries : List ℕ → List Message
entries [] = []
entries (k ∷ []) = []
entries (k ∷ p ∷ bytes) = message k (picks p) ∷ entries bytes

-- ---- opening

pub record Share : Type 0 where
  pub cells : ℕ
  pub threads : ℕ

unfoldable pub opened : ℕ → List Share → Machine
opened l [] = []
opened l (s ∷ ss) = bare (record { cells = s.cells; threads = s.threads; start = l }) ∷ opened (l + s.cells) ss

-- "a share of cells (1 to 1,024; 2,048 in all seats together) and of threads (1 to 32)"
unfoldable pub fair_share : Share → Bool
fair_share s = leb 1 s.cells && (leb s.cells 1024 && (leb 1 s.threads && leb s.threads 32))

unfoldable pub total : List Share → ℕ
total [] = 0
total (s ∷ ss) = s.cells + total ss

-- "Opening a machine fixes 1 to 8 seats."
unfoldable pub may_open : List Share → Bool
may_open ss = leb 1 (length ss) && (leb (length ss) 8 && (all fair_share ss && leb (total ss) 2048))

-- "30: open: counts or shares out of range"; a refused opening leaves the machine as it was
unfoldable pub opening : Machine → List Share → Machine
opening m ss = if may_open ss then opened 0 ss else m

unfoldable pub open_number : List Share → ℕ
open_number ss = if may_open ss then 0 else 30
