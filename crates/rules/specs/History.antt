-- Demand 3, stated: a history of openings and messages, what of it counts for one seat, and the seat replayed from that alone. Assumes nothing.
use Rattle.std.specs.Prelude.{ℕ, List, [], ◌∷◌, eqb}
use Rattle.std.specs.Prelude.{if◌then◌else◌}
use Rattle.rules.specs.Claim.{Claim}
use Rattle.rules.specs.Calls.{Machine, Event, picks, loads, asks, clears, Reply, number, placed, told, Message, Share, hear, tell, claim_at, opened, opening, may_open}

-- newest first; a run is one message an entry
pub data Happening : Type 0 where
  opens : List Share → Happening
  says : Message → Happening

unfoldable pub machine_after : List Happening → Machine
machine_after [] = []
machine_after (opens ss ∷ h) = opening (machine_after h) ss
machine_after (says e ∷ h) = (tell (machine_after h) e).machine

-- the shares of the last opening that went through
unfoldable pub shares_after : List Happening → List Share
shares_after [] = []
shares_after (opens ss ∷ h) = if may_open ss then ss else shares_after h
shares_after (says e ∷ h) = shares_after h

-- an entry and a load count; a clearing that answered 0 ends what came before it; nothing else counts
unfoldable pub counted : Event → Reply → List Event → List Event
counted (picks p) r before = picks p ∷ before
counted (loads image) r before = loads image ∷ before
counted asks r before = before
counted clears (number n) before = if eqb n 0 then [] else before
counted clears (placed n p) before = before
counted clears (told n r) before = before

-- "its own loads and entries alone": those that named seat k since the last opening, or its last clearing, that answered 0
unfoldable pub trace : ℕ → List Happening → List Event
trace k [] = []
trace k (opens ss ∷ h) = if may_open ss then [] else trace k h
trace k (says e ∷ h) = if eqb e.to k then counted e.says (tell (machine_after h) e).reply (trace k h) else trace k h

-- seat k as opening gave it, and after it heard these, newest first
unfoldable pub fresh : List Share → ℕ → Claim
fresh ss k = claim_at (opened 0 ss) k

unfoldable pub replay : Claim → List Event → Claim
replay c [] = c
replay c (e ∷ es) = (hear (replay c es) e).claim
