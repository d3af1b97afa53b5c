-- The nine numbers that a seat's book holds, and what an effect does to them. Assumes nothing.
use Rattle.std.specs.Prelude.{ℕ, ◌+◌, ◌-◌, List, get_or, set, leb, ltb}
use Rattle.std.specs.Prelude.{if◌then◌else◌}
use Rattle.value.specs.declared.refusals.Refusal.TheVariants.{NoCellsLeft, NoThreadsLeft}
use Rattle.value.specs.Refusals.{refusal_number}
use Rattle.rules.specs.declared.Effect.{Effect}
use Rattle.rules.specs.declared.Effect.TheVariants.{Goes, Ends, Waits, Fills, Empties, Makes, Spawns, Refuses}
use Rattle.book.specs.declared.Tally.{Tally}

-- cell share, thread share, image length, start of the code, cells used, live threads, refusal, row place of the refused thread, steps
unfoldable pub tally_in : List ℕ → Tally
tally_in b =
    record {
      cells = get_or b 0 0;
      threads = get_or b 1 0;
      length = get_or b 2 0;
      code = get_or b 3 0;
      used = get_or b 4 0;
      live = get_or b 5 0;
      refusal = get_or b 6 0;
      halted = get_or b 7 0;
      steps = get_or b 8 0;
    }

-- what a turn may change
unfoldable pub book_with : Tally → List ℕ → List ℕ
book_with n b = set (set (set (set (set b 4 n.used) 5 n.live) 6 n.refusal) 7 n.halted) 8 n.steps

-- a sum that 32 bits hold, else the first
unfoldable pub sum_or : ℕ → ℕ → ℕ
sum_or a b = if leb (a + b) 4294967295 then a + b else a

-- the steps of a book, and one more
abbrev pub next_step : List ℕ → ℕ
next_step b = sum_or (get_or b 8 0) 1

-- a number that 32 bits hold, else 0
unfoldable pub narrow : ℕ → ℕ
narrow i = if leb i 4294967295 then i else 0

abbrev pub tally_with : Tally → ℕ → ℕ → ℕ → ℕ → Tally
tally_with n used live refusal halted =
    record {
      cells = n.cells;
      threads = n.threads;
      length = n.length;
      code = n.code;
      used = used;
      live = live;
      refusal = refusal;
      halted = halted;
      steps = sum_or n.steps 1;
    }

-- the numbers after the effect of the thread at place i of the row
unfoldable pub tally_after : Effect → ℕ → Tally → Tally
tally_after (Goes t) i n = tally_with n n.used n.live n.refusal n.halted
tally_after Ends i n = tally_with n n.used (n.live - 1) n.refusal n.halted
tally_after (Waits t l) i n = tally_with n n.used n.live n.refusal n.halted
tally_after (Fills t k l v) i n = tally_with n n.used n.live n.refusal n.halted
tally_after (Empties t l) i n = tally_with n n.used n.live n.refusal n.halted
tally_after (Makes t k m) i n = tally_with n (sum_or n.used m) n.live n.refusal n.halted
tally_after (Spawns t new) i n = tally_with n n.used (sum_or n.live 1) n.refusal n.halted
tally_after (Refuses m) i n = tally_with n n.used n.live m (narrow i)

-- "then room"
unfoldable pub room_in : Tally → Effect → Effect
room_in n (Goes t) = Goes t
room_in n Ends = Ends
room_in n (Waits t l) = Waits t l
room_in n (Fills t k l v) = Fills t k l v
room_in n (Empties t l) = Empties t l
room_in n (Makes t k m) = if leb (n.used + m) n.cells then Makes t k m else Refuses (refusal_number NoCellsLeft)
room_in n (Spawns t new) = if ltb n.live n.threads then Spawns t new else Refuses (refusal_number NoThreadsLeft)
room_in n (Refuses m) = Refuses m
