-- Claims and machines that are sound, and the same broken in one clause of document 01's list, worked out by hand. Assumes nothing.
use Rattle.std.specs.Prelude.{ℕ, List, [], ◌∷◌, ◌++◌, pos}
use Rattle.value.specs.Range.{least, greatest}
use Rattle.value.specs.declared.Value.{Value}
use Rattle.value.specs.declared.Value.TheVariants.{Integer, Nil, Location}
use Rattle.rules.specs.declared.Kind.TheVariants.{Icell}
use Rattle.rules.specs.Decide.{thread}
use Rattle.rules.specs.Claim.{Seat, Claim, Cell, empty, full, Live, readied, waiting}
use Rattle.rules.specs.Calls.{Machine, bare}

abbrev seat : ℕ → ℕ → ℕ → Seat
seat cells threads start = record { cells = cells; threads = threads; start = start }

-- r 2, no input, TOUCH 1, END: starts 0 and 2
abbrev sheet : List ℕ
sheet = 0x80 ∷ 2 ∷ 0x85 ∷ 0x05 ∷ 1 ∷ 0x00 ∷ []

abbrev claim : Seat → List ℕ → List Cell → List Live → ℕ → ℕ → ℕ → Claim
claim s image cells row refusal halted steps =
    record { seat = s; image = image; cells = cells; row = row; refusal = refusal; halted = halted; steps = steps }

abbrev two : List Cell
two = empty Icell ∷ empty Icell ∷ []

-- a thread at this position, with this frame and accumulator
abbrev at : ℕ → ℕ → Value → Live
at p f a = readied (thread p f a)

abbrev home : Seat
home = seat 4 2 0

-- one seat of four cells and two threads
abbrev only : List ℕ → List Cell → List Live → ℕ → ℕ → ℕ → Machine
only image cells row refusal halted steps = claim home image cells row refusal halted steps ∷ []

unfoldable pub sounds : List Machine
sounds =
    (bare home ∷ [])
    ∷ only sheet two (at 0 0 Nil ∷ []) 0 0 0
    ∷ only sheet two (at 2 65535 (Location 65535) ∷ waiting 1 (thread 2 0 Nil) ∷ []) 0 0 4294967295
    ∷ only sheet (full Icell (Integer greatest) ∷ full Icell (Integer least) ∷ empty Icell ∷ empty Icell ∷ []) [] 0 0 7
    ∷ only sheet two (waiting 1 (thread 2 0 Nil) ∷ at 0 0 Nil ∷ []) 9 1 3
    ∷ (bare (seat 1024 32 0) ∷ bare (seat 1024 32 1024) ∷ [])
    ∷ []

unfoldable pub unsounds : List Machine
unsounds =
    -- "shares obey the limits": no seat, no cells, too many, no threads, too many, too many in all, nine seats, a region elsewhere
    []
    ∷ (bare (seat 0 2 0) ∷ [])
    ∷ (bare (seat 1025 2 0) ∷ [])
    ∷ (bare (seat 4 0 0) ∷ [])
    ∷ (bare (seat 4 33 0) ∷ [])
    ∷ (bare (seat 1024 32 0) ∷ bare (seat 1024 32 1024) ∷ bare (seat 1 1 2048) ∷ [])
    ∷ (bare (seat 1 1 0) ∷ bare (seat 1 1 1) ∷ bare (seat 1 1 2) ∷ bare (seat 1 1 3) ∷ bare (seat 1 1 4) ∷ bare (seat 1 1 5) ∷ bare (seat 1 1 6) ∷ bare (seat 1 1 7) ∷ bare (seat 1 1 8) ∷ [])
    ∷ (bare home ∷ bare (seat 4 2 5) ∷ [])
    -- "vacant seats are bare": a cell, a thread, a refusal, a halted thread, steps
    ∷ only [] (empty Icell ∷ []) [] 0 0 0
    ∷ only [] [] (at 0 0 Nil ∷ []) 0 0 0
    ∷ only [] [] [] 1 0 0
    ∷ only [] [] [] 0 1 0
    ∷ only [] [] [] 0 0 1
    -- "images pass the reader"
    ∷ only (0x80 ∷ 2 ∷ 0x85 ∷ []) two (at 0 0 Nil ∷ []) 0 0 0
    -- "used cells lie between r and the share"
    ∷ only sheet (empty Icell ∷ []) (at 0 0 Nil ∷ []) 0 0 0
    ∷ only sheet (two ++ two ++ empty Icell ∷ []) (at 0 0 Nil ∷ []) 0 0 0
    -- "values are well formed": in a cell, in an accumulator, a frame
    ∷ only sheet (full Icell (Integer (pos 9223372036854775808)) ∷ empty Icell ∷ []) (at 0 0 Nil ∷ []) 0 0 0
    ∷ only sheet (full Icell (Location 65536) ∷ empty Icell ∷ []) (at 0 0 Nil ∷ []) 0 0 0
    ∷ only sheet two (at 0 0 (Location 65536) ∷ []) 0 0 0
    ∷ only sheet two (at 0 65536 Nil ∷ []) 0 0 0
    -- "at an instruction's start": inside a body, at the end
    ∷ only sheet two (at 1 0 Nil ∷ []) 0 0 0
    ∷ only sheet two (at 3 0 Nil ∷ []) 0 0 0
    -- "only empty cells have waiters": a full one, one that is not made
    ∷ only sheet (empty Icell ∷ full Icell Nil ∷ []) (waiting 1 (thread 2 0 Nil) ∷ []) 0 0 0
    ∷ only sheet two (waiting 2 (thread 2 0 Nil) ∷ []) 0 0 0
    -- "live threads fit"
    ∷ only sheet two (at 0 0 Nil ∷ at 0 0 Nil ∷ at 0 0 Nil ∷ []) 0 0 0
    -- "a refused claim has a refusal 1 to 9 and a ready thread at its position"
    ∷ only sheet two (at 0 0 Nil ∷ []) 10 0 1
    ∷ only sheet two (at 0 0 Nil ∷ []) 1 1 1
    ∷ only sheet two (waiting 1 (thread 2 0 Nil) ∷ []) 1 0 1
    ∷ only sheet two (at 0 0 Nil ∷ at 0 0 Nil ∷ []) 0 1 1
    -- steps beyond 32 bits
    ∷ only sheet two (at 0 0 Nil ∷ []) 0 0 4294967296
    ∷ []
