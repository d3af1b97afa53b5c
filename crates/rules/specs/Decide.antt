-- Document 01, "Instructions": what one instruction does. Assumes nothing.
use Rattle.std.specs.Prelude.{ℕ, ◌+◌, ℤ, Option, Some, None, Result, Ok, Err}
use Rattle.std.specs.Prelude.{if◌then◌else◌}
use Rattle.value.specs.declared.Value.{Value}
use Rattle.value.specs.declared.Value.TheVariants.{Integer, Float, Boolean, Nil, Location}
use Rattle.value.specs.declared.refusals.Refusal.{Refusal}
use Rattle.value.specs.declared.refusals.Refusal.TheVariants.{WrongKind, CellFull}
use Rattle.value.specs.Refusals.{refusal_number}
use Rattle.numbers.specs.declared.Operation.{Operation}
use Rattle.numbers.specs.Operations.{takes_first, operated}
use Rattle.kinds.specs.declared.Instruction.{Instruction}
use Rattle.kinds.specs.declared.Instruction.TheVariants as I
use Rattle.rules.specs.declared.Kind.{Kind}
use Rattle.rules.specs.declared.Kind.TheVariants.{Icell, Mcell}
use Rattle.rules.specs.declared.Slot.{Slot}
use Rattle.rules.specs.declared.Thread.{Thread}
use Rattle.rules.specs.declared.Effect.{Effect}
use Rattle.rules.specs.declared.Effect.TheVariants.{Goes, Ends, Waits, Fills, Empties, Makes, Spawns, Refuses}
use Rattle.rules.specs.Tests.{value_in, location_of, integer_of, truth_of, size_of, cell_in, ◌>>=◌}

-- What a thread may see of its claim: `at l k` is the cell k places past location l, `moved l z` location l moved by z,
-- `fresh` the location of the next cell made.
pub record View : Type 0 where
  pub at : ℕ → ℕ → Slot
  pub moved : ℕ → ℤ → Result ℕ Refusal
  pub fresh : ℕ

abbrev pub thread : ℕ → ℕ → Value → Thread
thread p f a = record { position = p; frame = f; acc = a }

-- an effect, or the refusal of a test that failed
abbrev pub told : Result Effect Refusal → Effect
told (Ok e) = e
told (Err r) = Refuses (refusal_number r)

-- a cell was looked at: what it holds is handed on; "Empty: the thread waits"
unfoldable pub if_full : (Value → Effect) → Effect → Result (Option Value) Refusal → Effect
if_full f e (Ok (Some v)) = f v
if_full f e (Ok None) = e
if_full f e (Err r) = Refuses (refusal_number r)

-- "need an empty cell. They fill it"; "store to a full cell"
unfoldable pub if_empty : Effect → Result (Option Value) Refusal → Effect
if_empty e (Ok (Some v)) = Refuses (refusal_number CellFull)
if_empty e (Ok None) = e
if_empty e (Err r) = Refuses (refusal_number r)

-- "slot s any number, slot t the kind that s has": slot s is judged before slot t is read
unfoldable pub with_second : Operation → Value → Result Value Refusal → Result Value Refusal
with_second o a (Ok b) = operated o a b
with_second o a (Err n) = Err n

unfoldable pub with_first : Operation → Result Value Refusal → Result Value Refusal → Result Value Refusal
with_first o (Ok a) t = if takes_first o a then with_second o a t else Err WrongKind
with_first o (Err n) t = Err n

-- `after` is the position behind the instruction, `th` the thread that runs it
module _ (after : ℕ) (see : View) (th : Thread) where
  -- "Slot s is the cell at frame + s."
  abbrev pub slot : ℕ → Slot
  slot s = see.at th.frame s

  abbrev pub location_in : ℕ → Result ℕ Refusal
  location_in s = location_of (value_in (slot s))

  -- on to the next instruction, with an accumulator, and with its own; at this same instruction with nil
  abbrev pub next : Value → Thread
  next a = thread after th.frame a

  abbrev pub onward : Thread
  onward = next th.acc

  abbrev pub again : Thread
  again = thread th.position th.frame Nil

  -- "full gives its value to the accumulator; MFETCH, on an M-cell only, then empties it. Empty: the thread waits, accumulator nil, at this same instruction."
  unfoldable pub gives : Kind → ℕ → Value → Effect
  gives Icell l v = Goes (next v)
  gives Mcell l v = Empties (next v) l

  unfoldable pub fetches : Kind → ℕ → ℕ → Effect
  fetches kind s k = do
    l ← location_in s
    if_full (gives kind (l + k)) (Waits again (l + k)) (cell_in kind (see.at l k))

  -- "ISTORE and MSTORE (slot t's value to the location in s)"
  unfoldable pub stores : Kind → ℕ → ℕ → Effect
  stores kind s t = do
    l ← location_in s
    v ← value_in (slot t)
    if_empty (Fills onward kind l v) (cell_in kind (see.at l 0))

  -- "IALLOC, MALLOC (size in slot, 1 to 1,024) and FRAME make that many empty cells ..; the accumulator is the first one's location."
  unfoldable pub makes : Kind → ℕ → Effect
  makes kind n = Makes (next (Location see.fresh)) kind n

  unfoldable pub allocates : Kind → ℕ → Effect
  allocates kind s = do
    n ← size_of (integer_of (value_in (slot s)))
    makes kind n

  unfoldable pub decide : Instruction → Effect
  decide I.End = Ends
  -- "INT, FLOAT, BOOL, NIL, LOAD, SELF (own frame's location) set the accumulator."
  decide (I.Int z) = Goes (next (Integer z))
  decide (I.Float x) = Goes (next (Float x))
  decide (I.Bool b) = Goes (next (Boolean b))
  decide I.Nil = Goes (next Nil)
  decide I.Own = Goes (next (Location th.frame))
  decide (I.Load s) = do
    v ← value_in (slot s)
    Goes (next v)
  -- "TOUCH: .. Full or not, the accumulator becomes nil. .. Empty: the thread waits with the next instruction to run."
  decide (I.Touch s) = if_full (λ v. Goes (next Nil)) (Waits (next Nil) (th.frame + s)) (cell_in Icell (slot s))
  decide (I.Ifetch s) = fetches Icell s 0
  decide (I.Get s k) = fetches Icell s k
  decide (I.Mfetch s) = fetches Mcell s 0
  -- "STORE (accumulator to slot), PUT (accumulator to location in s, plus k)"
  decide (I.Store s) = if_empty (Fills onward Icell (th.frame + s) th.acc) (cell_in Icell (slot s))
  decide (I.Put s k) = do
    l ← location_in s
    if_empty (Fills onward Icell (l + k) th.acc) (cell_in Icell (see.at l k))
  decide (I.Istore s t) = stores Icell s t
  decide (I.Mstore s t) = stores Mcell s t
  decide (I.Ialloc s) = allocates Icell s
  decide (I.Malloc s) = allocates Mcell s
  decide (I.Frame n) = makes Icell n
  -- "SPAWN (same frame) and APPLY (frame from slot) put a new thread at the back, accumulator nil"
  decide (I.Spawn a) = Spawns onward (thread a th.frame Nil)
  decide (I.Apply a s) = do
    l ← location_in s
    Spawns onward (thread a l Nil)
  decide (I.Binary o s t) = do
    v ← with_first o (value_in (slot s)) (value_in (slot t))
    Goes (next v)
  -- "OFFSET: location plus integer; refused with 1 outside 0 to 65,535."
  decide (I.Offset s t) = do
    l ← location_in s
    z ← integer_of (value_in (slot t))
    m ← see.moved l z
    Goes (next (Location m))
  -- "SWITCH: true to a, false to b."
  decide (I.Switch s a b) = do
    c ← truth_of (value_in (slot s))
    Goes (thread (if c then a else b) th.frame th.acc)
