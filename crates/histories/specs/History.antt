-- Demand 3, said of the calls: a history of calls on lent bytes, what of it counts for one seat, and that seat alone. Assumes nothing.
use Rattle.std.specs.Prelude.{ℕ, true, ◌&&◌, not, ◌≡◌, List, [], ◌∷◌, ltb, eqb}
use Rattle.std.specs.Prelude.{if◌then◌else◌}
use Rattle.laws.specs.Lists.{all}
use Rattle.rules.specs.Claim.{Claim}
use Rattle.rules.specs.Calls.{Event, picks, loads, Share, hear, number_in}
use Rattle.rules.specs.History.{replay}
use Rattle.state.specs.State.{State}
use Rattle.calls.specs.Calls.{shares_in, open_call, run_call, load_call, clear_call}

-- a call, with what it is lent beside the state
pub data Call : Type 0 where
  opening : List ℕ → Call
  running : List ℕ → List ℕ → Call
  loading : ℕ → List ℕ → Call
  reporting : ℕ → Call
  clearing : ℕ → Call

-- the state after a history, newest call first: nobody touches it between calls
unfoldable pub after : State → List Call → State
after s [] = s
after s (opening shares ∷ h) = (open_call (after s h) shares).state
after s (running schedule answers ∷ h) = (run_call (after s h) schedule answers).state
after s (loading k image ∷ h) = (load_call (after s h) k image).state
after s (reporting k ∷ h) = after s h
after s (clearing k ∷ h) = (clear_call (after s h) k).state

-- the shares of the last opening that answered 0
unfoldable pub shares_of : State → List Call → List Share
shares_of s [] = []
shares_of s (opening shares ∷ h) = if eqb (open_call (after s h) shares).answer 0 then shares_in shares else shares_of s h
shares_of s (running schedule answers ∷ h) = shares_of s h
shares_of s (loading k image ∷ h) = shares_of s h
shares_of s (reporting k ∷ h) = shares_of s h
shares_of s (clearing k ∷ h) = shares_of s h

-- an entry or a load of one seat, and the number that came back
pub record Word : Type 0 where
  pub event : Event
  pub answer : ℕ

abbrev pub word : Event → ℕ → Word
word e n = record { event = e; answer = n }

-- seat k's entries in a schedule, each with its byte of the answer buffer, put before what was there, newest first
unfoldable pub entries_of : ℕ → List ℕ → List ℕ → List Word → List Word
entries_of k [] answers log = log
entries_of k (j ∷ []) answers log = log
entries_of k (j ∷ p ∷ bytes) [] log = log
entries_of k (j ∷ p ∷ bytes) (a ∷ answers) log = entries_of k bytes answers (if eqb j k then word (picks p) a ∷ log else log)

-- "its own loads and entries": since the last opening, or seat k's last clearing, that answered 0, the loads that named it and did not answer 32,
-- and its entries in runs that answered 0, with what each answered
unfoldable pub log_of : ℕ → State → List Call → List Word
log_of k s [] = []
log_of k s (opening shares ∷ h) = if eqb (open_call (after s h) shares).answer 0 then [] else log_of k s h
log_of k s (running schedule answers ∷ h) =
    if eqb (run_call (after s h) schedule answers).answer 0 then entries_of k schedule (run_call (after s h) schedule answers).answers (log_of k s h)
    else log_of k s h
log_of k s (loading j image ∷ h) =
    if eqb j k && not (eqb (load_call (after s h) j image).answer 32) then word (loads image) (load_call (after s h) j image).answer ∷ log_of k s h
    else log_of k s h
log_of k s (reporting j ∷ h) = log_of k s h
log_of k s (clearing j ∷ h) = if eqb j k && eqb (clear_call (after s h) j).answer 0 then [] else log_of k s h

-- what was said, without the answers
unfoldable pub trace_of : List Word → List Event
trace_of [] = []
trace_of (w ∷ ws) = w.event ∷ trace_of ws

-- the same events with the answers that the seat gives alone
unfoldable pub spoken : Claim → List Event → List Word
spoken c [] = []
spoken c (e ∷ es) = word e (number_in (hear (replay c es) e).reply) ∷ spoken c es

-- images are bytes, as their type says
abbrev pub Bytes : Call → Type 0
Bytes (opening shares) = Unit {0}
Bytes (running schedule answers) = Unit {0}
Bytes (loading k image) = all (λ b. ltb b 256) image ≡ true
Bytes (reporting k) = Unit {0}
Bytes (clearing k) = Unit {0}
