-- Document 01: "Each thread is a small record, and finding the thread to run is a search through the lent row of thread records." The row as structs: laid out from heads, four at a time, and searched. Assumes nothing.
use Rattle.std.specs.Prelude.{ℕ, Result, ◌/◌, ◌%◌, List, [], ◌∷◌, get_or}
use Rattle.threads.specs.Heads.{place_in}
use Rattle.threads.specs.Row.{found_by}
use Rattle.rows.specs.declared.Thread.{Thread}

-- a head as docs/STATE.md has it: bits 0 to 15 are the place, 16 to 31 the position, 32 to 47 the frame, 48 to 63 the accumulator's tag
unfoldable pub thread_of : ℕ → Thread
thread_of head =
    record { place = place_in head; position = head / 65536 % 65536; frame = head / 4294967296 % 65536; tag = head / 281474976710656 % 65536 }

-- the first four heads as structs; behind the last head a 0, whose place is no record's
unfoldable pub four_of : List ℕ → List Thread
four_of hs = thread_of (get_or hs 0 0) ∷ thread_of (get_or hs 1 0) ∷ thread_of (get_or hs 2 0) ∷ thread_of (get_or hs 3 0) ∷ []

-- "The pick-th thread (from 0) of the seat's ready order": the place of the pick-th ready record of a row that starts at index i, with n ready before it; else how many are ready
abbrev pub found_in : ℕ → ℕ → ℕ → List Thread → Result ℕ ℕ
found_in = found_by (λ t. t.place)
