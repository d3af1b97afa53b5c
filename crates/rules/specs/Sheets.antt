-- Document 01, "Worked sheets": what a sheet is, and W1 to W9 in one table. Assumes nothing.
use Rattle.std.specs.Prelude.{ℕ, List, [], ◌∷◌, ◌++◌, map, pos}
use Rattle.value.specs.declared.Value.{Value}
use Rattle.value.specs.declared.Value.TheVariants.{Integer, Nil}
use Rattle.rules.specs.declared.Status.{Status}
use Rattle.rules.specs.declared.Status.TheVariants.{Finished, Deadlocked, Refused}
use Rattle.std.specs.Prelude.{Option, Some}
use Rattle.rules.specs.Claim.{keep, is_ready}
use Rattle.rules.specs.Calls.{Share, Message, message, picks, loads, Reply, number, placed, after, replies, opened, claim_at, report}

-- What a sheet states: what was answered, and of one seat at the end its status, result, refusal and position, steps, cells used,
-- live threads, and the positions of its ready threads in order.
pub data Fact : Type 0 where
  answers : List Reply → Fact
  status : ℕ → Status → Fact
  result : ℕ → Option Value → Fact
  refused-at : ℕ → ℕ → ℕ → Fact
  steps used live : ℕ → ℕ → Fact
  order : ℕ → List ℕ → Fact

-- Open with these shares, say these things, and these facts hold.
pub record Sheet : Type 0 where
  pub shares : List Share
  pub says : List Message
  pub facts : List Fact

-- the same kind of fact, as the rules have it
unfoldable pub seen : Sheet → Fact → Fact
seen s (answers rs) = answers (replies (opened 0 s.shares) s.says)
seen s (status k x) = status k (report (claim_at (after (opened 0 s.shares) s.says) k)).status
seen s (result k v) = result k (report (claim_at (after (opened 0 s.shares) s.says) k)).result
seen s (refused-at k n p) =
    refused-at k (report (claim_at (after (opened 0 s.shares) s.says) k)).refusal (report (claim_at (after (opened 0 s.shares) s.says) k)).position
seen s (steps k n) = steps k (report (claim_at (after (opened 0 s.shares) s.says) k)).steps
seen s (used k n) = used k (report (claim_at (after (opened 0 s.shares) s.says) k)).used
seen s (live k n) = live k (report (claim_at (after (opened 0 s.shares) s.says) k)).live
seen s (order k ps) = order k (map (λ t. t.thread.position) (keep is_ready (claim_at (after (opened 0 s.shares) s.says) k).row))

-- ---- how the tables are written

abbrev pub share : ℕ → ℕ → Share
share c t = record { cells = c; threads = t }

-- an integer's eight bytes, below 256
abbrev pub int : ℕ → List ℕ
int n = n ∷ 0 ∷ 0 ∷ 0 ∷ 0 ∷ 0 ∷ 0 ∷ 0 ∷ []

abbrev pub sheet : List Share → List Message → List Fact → Sheet
sheet ss ms fs = record { shares = ss; says = ms; facts = fs }

abbrev pub turns : ℕ → List ℕ → List Message
turns k ps = map (λ p. message k (picks p)) ps

-- a good load, and then these answers
abbrev pub ok : List ℕ → Fact
ok ns = answers (placed 0 0 ∷ map number ns)

-- "Seat 0, share 8 cells and 4 threads, pick 0, unless said."
abbrev pub usual : List ℕ → List ℕ → List Fact → Sheet
usual image ps fs = sheet (share 8 4 ∷ []) (message 0 (loads image) ∷ turns 0 ps) fs

-- ---- W1 to W9

abbrev w2 : List ℕ
w2 = 0x80 ∷ 3 ∷ 0x81 ∷ int 4 ++ 0x85 ∷ 0x0F ∷ 0x07 ∷ 2 ∷ 0x16 ∷ 2 ∷ 1 ∷ 0x07 ∷ 0 ∷ 0x0A ∷ 0 ∷ 0x00 ∷ []

abbrev w8 : ℕ → List ℕ
w8 n = 0x80 ∷ 2 ∷ 0x81 ∷ int n ++ 0x85 ∷ 0x08 ∷ 1 ∷ 0x00 ∷ []

unfoldable pub worked : List Sheet
worked =
    -- W1
    usual (0x80 ∷ 3 ∷ 0x81 ∷ int 5 ++ 0x81 ∷ int 7 ++ 0x85 ∷ 0x10 ∷ 1 ∷ 2 ∷ 0x07 ∷ 0 ∷ 0x00 ∷ []) (0 ∷ 0 ∷ 0 ∷ [])
    (ok (0 ∷ 0 ∷ 1 ∷ []) ∷ status 0 Finished ∷ result 0 (Some (Integer (pos 12))) ∷ steps 0 3 ∷ [])
    -- W2, seat 1 vacant, and full
    ∷ sheet (share 4 4 ∷ share 4 4 ∷ []) (message 0 (loads w2) ∷ turns 0 (0 ∷ 0 ∷ 0 ∷ 0 ∷ 0 ∷ []))
    (ok (0 ∷ 0 ∷ 0 ∷ 0 ∷ 3 ∷ []) ∷ status 0 Refused ∷ refused-at 0 1 8 ∷ [])
    ∷ sheet (share 4 4 ∷ share 4 4 ∷ []) (message 1 (loads (0x80 ∷ 4 ∷ 0x85 ∷ 0x00 ∷ [])) ∷ message 0 (loads w2) ∷ turns 0 (0 ∷ 0 ∷ 0 ∷ 0 ∷ 0 ∷ []))
    (answers (placed 0 0 ∷ placed 0 0 ∷ map number (0 ∷ 0 ∷ 0 ∷ 0 ∷ 3 ∷ [])) ∷ status 0 Refused ∷ refused-at 0 1 8 ∷ [])
    -- W3
    ∷ usual (0x80 ∷ 1 ∷ 0x85 ∷ 0x05 ∷ 0 ∷ 0x00 ∷ []) (0 ∷ 0 ∷ []) (ok (2 ∷ 5 ∷ []) ∷ status 0 Deadlocked ∷ [])
    -- W4
    ∷ usual (0x80 ∷ 1 ∷ 0x85 ∷ 0x04 ∷ 0x07 ∷ 0 ∷ 0x07 ∷ 0 ∷ 0x00 ∷ []) (0 ∷ 0 ∷ 0 ∷ []) (ok (0 ∷ 0 ∷ 3 ∷ []) ∷ status 0 Refused ∷ refused-at 0 5 3 ∷ [])
    -- W5
    ∷ usual (0x80 ∷ 2 ∷ 0x85 ∷ 0x18 ∷ 0x0A ∷ 0 ∷ 0x18 ∷ 0x0D ∷ 0 ∷ 0x04 ∷ 0x07 ∷ 1 ∷ 0x00 ∷ 0x05 ∷ 1 ∷ 0x00 ∷ 0x05 ∷ 1 ∷ 0x00 ∷ [])
    (0 ∷ 0 ∷ 1 ∷ 1 ∷ 0 ∷ 0 ∷ [])
    (ok (0 ∷ 0 ∷ 2 ∷ 2 ∷ 0 ∷ 0 ∷ []) ∷ order 0 (9 ∷ 15 ∷ 12 ∷ []) ∷ [])
    -- W6
    ∷ usual (0x80 ∷ 2 ∷ 0x84 ∷ 0x85 ∷ 0x01 ∷ int 5 ++ 0x05 ∷ 1 ∷ 0x07 ∷ 0 ∷ 0x00 ∷ []) (0 ∷ 0 ∷ 0 ∷ 0 ∷ [])
    (status 0 Finished ∷ result 0 (Some Nil) ∷ [])
    -- W7
    ∷ usual (0x80 ∷ 2 ∷ 0x81 ∷ int 1 ++ 0x85 ∷ 0x09 ∷ 1 ∷ 0x07 ∷ 0 ∷ 0x0C ∷ 0 ∷ 0x00 ∷ []) (0 ∷ 0 ∷ 0 ∷ [])
    (ok (0 ∷ 0 ∷ 2 ∷ []) ∷ status 0 Deadlocked ∷ used 0 3 ∷ [])
    -- W8
    ∷ usual (w8 6) (0 ∷ 0 ∷ []) (status 0 Finished ∷ used 0 8 ∷ [])
    ∷ usual (w8 7) (0 ∷ []) (status 0 Refused ∷ refused-at 0 7 0 ∷ [])
    -- W9
    ∷ usual (0x80 ∷ 1 ∷ 0x85 ∷ 0x04 ∷ []) [] (answers (placed 23 3 ∷ []) ∷ [])
    ∷ usual [] [] (answers (placed 23 0 ∷ []) ∷ [])
    ∷ []
