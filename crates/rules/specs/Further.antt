-- Sheets of our own, worked out by hand from document 01: each refusal of each instruction, and what W1 to W9 leave out. Assumes nothing.
use Rattle.std.specs.Prelude.{ℕ, suc, true, false, List, [], ◌∷◌, ◌++◌, map, replicate, pos}
use Rattle.value.specs.declared.Value.TheVariants.{Integer, Boolean, Nil, Location}
use Rattle.rules.specs.declared.Status.TheVariants.{Vacant, Running, Finished, Deadlocked, Refused}
use Rattle.std.specs.Prelude.{Some, None}
use Rattle.rules.specs.Decide.{thread}
use Rattle.rules.specs.Claim.{Claim, Live, readied}
use Rattle.rules.specs.Calls.{Share, message, loads, picks, asks, clears, number, placed, told, blank}
use Rattle.rules.specs.Sheets.{Sheet, answers, status, result, refused-at, steps, used, live, order, share, int, sheet, turns, ok, usual}

-- ---- refusals: the first n entries run on, the next is refused

-- an image: r slots, these inputs, this code
abbrev image : ℕ → List ℕ → List ℕ → List ℕ
image r ins code = 0x80 ∷ r ∷ ins ++ 0x85 ∷ code

-- inputs: an integer below 256, -1, 1.0, a boolean, nil; 65,535
abbrev i : ℕ → List ℕ
i n = 0x81 ∷ int n

abbrev minus_one : List ℕ
minus_one = 0x81 ∷ 255 ∷ 255 ∷ 255 ∷ 255 ∷ 255 ∷ 255 ∷ 255 ∷ 255 ∷ []

abbrev greatest : List ℕ
greatest = 0x81 ∷ 255 ∷ 255 ∷ 255 ∷ 255 ∷ 255 ∷ 255 ∷ 255 ∷ 127 ∷ []

abbrev least : List ℕ
least = 0x81 ∷ 0 ∷ 0 ∷ 0 ∷ 0 ∷ 0 ∷ 0 ∷ 0 ∷ 128 ∷ []

abbrev wide : ℕ → ℕ → List ℕ
wide low high = 0x81 ∷ low ∷ high ∷ 0 ∷ 0 ∷ 0 ∷ 0 ∷ 0 ∷ 0 ∷ []

abbrev far : List ℕ
far = 0x81 ∷ 0 ∷ 0 ∷ 1 ∷ 0 ∷ 0 ∷ 0 ∷ 0 ∷ 0 ∷ []

abbrev one : List ℕ
one = 0x82 ∷ 0 ∷ 0 ∷ 0 ∷ 0 ∷ 0 ∷ 0 ∷ 0xF0 ∷ 0x3F ∷ []

abbrev none : List ℕ
none = 0x82 ∷ 0 ∷ 0 ∷ 0 ∷ 0 ∷ 0 ∷ 0 ∷ 0 ∷ 0 ∷ []

abbrev yes : List ℕ
yes = 0x83 ∷ 1 ∷ []

abbrev nil : List ℕ
nil = 0x84 ∷ []

-- with these shares: after n entries that answered 0 the next answers 3, and the claim is refused by this number at this position
abbrev halts-in : ℕ → ℕ → List ℕ → ℕ → ℕ → ℕ → Sheet
halts-in cells threads img n by p =
    sheet (share cells threads ∷ []) (message 0 (loads img) ∷ turns 0 (replicate (suc n) 0))
    (ok (replicate n 0 ++ 3 ∷ []) ∷ status 0 Refused ∷ refused-at 0 by p ∷ steps 0 (suc n) ∷ [])

abbrev halts : List ℕ → ℕ → ℕ → ℕ → Sheet
halts = halts-in 8 4

unfoldable pub refusals : List Sheet
refusals =
    -- LOAD: no such cell, wrong cell kind, slot empty
    halts (image 1 [] (0x06 ∷ 5 ∷ 0x00 ∷ [])) 0 1 0
    ∷ halts (image 2 (i 1) (0x09 ∷ 1 ∷ 0x06 ∷ 2 ∷ 0x00 ∷ [])) 1 2 2
    ∷ halts (image 2 [] (0x06 ∷ 1 ∷ 0x00 ∷ [])) 0 3 0
    -- TOUCH: no such cell, wrong cell kind
    ∷ halts (image 1 [] (0x05 ∷ 9 ∷ 0x00 ∷ [])) 0 1 0
    ∷ halts (image 2 (i 1) (0x09 ∷ 1 ∷ 0x05 ∷ 2 ∷ 0x00 ∷ [])) 1 2 2
    -- STORE: no such cell, wrong cell kind
    ∷ halts (image 1 [] (0x04 ∷ 0x07 ∷ 3 ∷ 0x00 ∷ [])) 1 1 1
    ∷ halts (image 2 (i 1) (0x09 ∷ 1 ∷ 0x07 ∷ 2 ∷ 0x00 ∷ [])) 1 2 2
    -- IALLOC: no such cell, wrong cell kind, slot empty, wrong kind of value, sizes 0, -1 and 1,025
    ∷ halts (image 1 [] (0x08 ∷ 4 ∷ 0x00 ∷ [])) 0 1 0
    ∷ halts (image 2 (i 1) (0x09 ∷ 1 ∷ 0x08 ∷ 2 ∷ 0x00 ∷ [])) 1 2 2
    ∷ halts (image 2 [] (0x08 ∷ 1 ∷ 0x00 ∷ [])) 0 3 0
    ∷ halts (image 2 nil (0x08 ∷ 1 ∷ 0x00 ∷ [])) 0 4 0
    ∷ halts (image 2 (i 0) (0x08 ∷ 1 ∷ 0x00 ∷ [])) 0 6 0
    ∷ halts (image 2 minus_one (0x08 ∷ 1 ∷ 0x00 ∷ [])) 0 6 0
    ∷ halts (image 2 (wide 1 4) (0x08 ∷ 1 ∷ 0x00 ∷ [])) 0 6 0
    -- MALLOC: wrong kind of value, size 0, no cells left
    ∷ halts (image 2 yes (0x09 ∷ 1 ∷ 0x00 ∷ [])) 0 4 0
    ∷ halts (image 2 (i 0) (0x09 ∷ 1 ∷ 0x00 ∷ [])) 0 6 0
    ∷ halts (image 2 (i 7) (0x09 ∷ 1 ∷ 0x00 ∷ [])) 0 7 0
    -- FRAME: no cells left
    ∷ halts (image 2 [] (0x0E ∷ 7 ∷ 0x00 ∷ [])) 0 7 0
    -- IFETCH: the slot's four refusals; the cell pointed to is an M-cell
    ∷ halts (image 1 [] (0x0A ∷ 2 ∷ 0x00 ∷ [])) 0 1 0
    ∷ halts (image 2 (i 1) (0x09 ∷ 1 ∷ 0x0A ∷ 2 ∷ 0x00 ∷ [])) 1 2 2
    ∷ halts (image 2 [] (0x0A ∷ 1 ∷ 0x00 ∷ [])) 0 3 0
    ∷ halts (image 2 (i 0) (0x0A ∷ 1 ∷ 0x00 ∷ [])) 0 4 0
    ∷ halts (image 2 (i 1) (0x09 ∷ 1 ∷ 0x07 ∷ 0 ∷ 0x0A ∷ 0 ∷ 0x00 ∷ [])) 2 2 4
    -- ISTORE: s no location; t empty; the cell pointed to full, an M-cell
    ∷ halts (image 3 (i 1 ++ i 2) (0x0B ∷ 1 ∷ 2 ∷ 0x00 ∷ [])) 0 4 0
    ∷ halts (image 2 [] (0x0F ∷ 0x07 ∷ 0 ∷ 0x0B ∷ 0 ∷ 1 ∷ 0x00 ∷ [])) 2 3 3
    ∷ halts (image 1 [] (0x0F ∷ 0x07 ∷ 0 ∷ 0x0B ∷ 0 ∷ 0 ∷ 0x00 ∷ [])) 2 5 3
    ∷ halts (image 2 (i 1) (0x09 ∷ 1 ∷ 0x07 ∷ 0 ∷ 0x0B ∷ 0 ∷ 1 ∷ 0x00 ∷ [])) 2 2 4
    -- MFETCH: s no location; the cell pointed to an I-cell
    ∷ halts (image 2 (i 0) (0x0C ∷ 1 ∷ 0x00 ∷ [])) 0 4 0
    ∷ halts (image 1 [] (0x0F ∷ 0x07 ∷ 0 ∷ 0x0C ∷ 0 ∷ 0x00 ∷ [])) 2 2 3
    -- MSTORE: s no location; t empty; the cell pointed to an I-cell, full or not; a full M-cell
    ∷ halts (image 3 (nil ++ i 2) (0x0D ∷ 1 ∷ 2 ∷ 0x00 ∷ [])) 0 4 0
    ∷ halts (image 3 (i 1) (0x09 ∷ 1 ∷ 0x07 ∷ 0 ∷ 0x0D ∷ 0 ∷ 2 ∷ 0x00 ∷ [])) 2 3 4
    ∷ halts (image 1 [] (0x0F ∷ 0x07 ∷ 0 ∷ 0x0D ∷ 0 ∷ 0 ∷ 0x00 ∷ [])) 2 2 3
    ∷ halts (image 2 (i 1) (0x09 ∷ 1 ∷ 0x07 ∷ 0 ∷ 0x0D ∷ 0 ∷ 1 ∷ 0x0D ∷ 0 ∷ 1 ∷ 0x00 ∷ [])) 3 5 7
    -- ADD: s nil; s a boolean, before t is read; t empty; t of another kind; out of range
    ∷ halts (image 3 (nil ++ i 1) (0x10 ∷ 1 ∷ 2 ∷ 0x00 ∷ [])) 0 4 0
    ∷ halts (image 3 yes (0x10 ∷ 1 ∷ 2 ∷ 0x00 ∷ [])) 0 4 0
    ∷ halts (image 3 (i 1) (0x10 ∷ 1 ∷ 2 ∷ 0x00 ∷ [])) 0 3 0
    ∷ halts (image 3 (i 1 ++ one) (0x10 ∷ 1 ∷ 2 ∷ 0x00 ∷ [])) 0 4 0
    ∷ halts (image 3 (greatest ++ i 1) (0x10 ∷ 1 ∷ 2 ∷ 0x00 ∷ [])) 0 9 0
    -- SUB and MUL out of range; DIV by zero, integer and float; least DIV -1
    ∷ halts (image 3 (least ++ i 1) (0x11 ∷ 1 ∷ 2 ∷ 0x00 ∷ [])) 0 9 0
    ∷ halts (image 3 (greatest ++ i 2) (0x12 ∷ 1 ∷ 2 ∷ 0x00 ∷ [])) 0 9 0
    ∷ halts (image 3 (i 1 ++ i 0) (0x13 ∷ 1 ∷ 2 ∷ 0x00 ∷ [])) 0 9 0
    ∷ halts (image 3 (one ++ none) (0x13 ∷ 1 ∷ 2 ∷ 0x00 ∷ [])) 0 9 0
    ∷ halts (image 3 (least ++ minus_one) (0x13 ∷ 1 ∷ 2 ∷ 0x00 ∷ [])) 0 9 0
    -- LESS takes no booleans; EQUAL neither nil nor locations, nor a boolean and an integer
    ∷ halts (image 3 (yes ++ yes) (0x14 ∷ 1 ∷ 2 ∷ 0x00 ∷ [])) 0 4 0
    ∷ halts (image 3 (nil ++ nil) (0x15 ∷ 1 ∷ 2 ∷ 0x00 ∷ [])) 0 4 0
    ∷ halts (image 1 [] (0x0F ∷ 0x07 ∷ 0 ∷ 0x15 ∷ 0 ∷ 0 ∷ 0x00 ∷ [])) 2 4 3
    ∷ halts (image 3 (yes ++ i 1) (0x15 ∷ 1 ∷ 2 ∷ 0x00 ∷ [])) 0 4 0
    -- OFFSET: s no location; t no integer; below 0; above 65,535
    ∷ halts (image 3 (i 1 ++ i 1) (0x16 ∷ 1 ∷ 2 ∷ 0x00 ∷ [])) 0 4 0
    ∷ halts (image 2 nil (0x0F ∷ 0x07 ∷ 0 ∷ 0x16 ∷ 0 ∷ 1 ∷ 0x00 ∷ [])) 2 4 3
    ∷ halts (image 2 minus_one (0x0F ∷ 0x07 ∷ 0 ∷ 0x16 ∷ 0 ∷ 1 ∷ 0x00 ∷ [])) 2 1 3
    ∷ halts (image 2 far (0x0F ∷ 0x07 ∷ 0 ∷ 0x16 ∷ 0 ∷ 1 ∷ 0x00 ∷ [])) 2 1 3
    -- SWITCH: slot empty; no boolean
    ∷ halts (image 2 [] (0x17 ∷ 1 ∷ 0 ∷ 0 ∷ 0 ∷ 0 ∷ [])) 0 3 0
    ∷ halts (image 2 (i 1) (0x17 ∷ 1 ∷ 0 ∷ 0 ∷ 0 ∷ 0 ∷ [])) 0 4 0
    -- APPLY: s no location
    ∷ halts (image 2 (i 0) (0x19 ∷ 0 ∷ 0 ∷ 1 ∷ 0x00 ∷ [])) 0 4 0
    -- GET: s no location; past the used cells; an M-cell
    ∷ halts (image 2 (i 0) (0x1A ∷ 1 ∷ 0 ∷ 0x00 ∷ [])) 0 4 0
    ∷ halts (image 1 [] (0x0F ∷ 0x07 ∷ 0 ∷ 0x1A ∷ 0 ∷ 9 ∷ 0x00 ∷ [])) 2 1 3
    ∷ halts (image 2 (i 1) (0x09 ∷ 1 ∷ 0x07 ∷ 0 ∷ 0x1A ∷ 0 ∷ 0 ∷ 0x00 ∷ [])) 2 2 4
    -- PUT: s no location; past the used cells; an M-cell; a full cell
    ∷ halts (image 2 (i 0) (0x1B ∷ 1 ∷ 0 ∷ 0x00 ∷ [])) 0 4 0
    ∷ halts (image 1 [] (0x0F ∷ 0x07 ∷ 0 ∷ 0x1B ∷ 0 ∷ 9 ∷ 0x00 ∷ [])) 2 1 3
    ∷ halts (image 2 (i 1) (0x09 ∷ 1 ∷ 0x07 ∷ 0 ∷ 0x1B ∷ 0 ∷ 0 ∷ 0x00 ∷ [])) 2 2 4
    ∷ halts (image 1 [] (0x0F ∷ 0x07 ∷ 0 ∷ 0x1B ∷ 0 ∷ 0 ∷ 0x00 ∷ [])) 2 5 3
    -- IFETCH, GET and PUT at 65,535 and one past it
    ∷ halts (image 3 (wide 255 255) (0x0F ∷ 0x07 ∷ 0 ∷ 0x16 ∷ 0 ∷ 1 ∷ 0x07 ∷ 2 ∷ 0x0A ∷ 2 ∷ 0x00 ∷ [])) 4 1 8
    ∷ halts (image 3 (wide 255 255) (0x0F ∷ 0x07 ∷ 0 ∷ 0x16 ∷ 0 ∷ 1 ∷ 0x07 ∷ 2 ∷ 0x1A ∷ 2 ∷ 1 ∷ 0x00 ∷ [])) 4 1 8
    ∷ halts (image 3 (wide 255 255) (0x0F ∷ 0x07 ∷ 0 ∷ 0x16 ∷ 0 ∷ 1 ∷ 0x07 ∷ 2 ∷ 0x1B ∷ 2 ∷ 1 ∷ 0x00 ∷ [])) 4 1 8
    -- SPAWN and APPLY: no threads left; APPLY's slot is tested before room
    ∷ halts-in 8 1 (image 1 [] (0x18 ∷ 0 ∷ 0 ∷ 0x00 ∷ [])) 0 8 0
    ∷ halts-in 8 1 (image 1 [] (0x0F ∷ 0x07 ∷ 0 ∷ 0x19 ∷ 0 ∷ 0 ∷ 0 ∷ 0x00 ∷ [])) 2 8 3
    ∷ halts-in 8 1 (image 1 [] (0x19 ∷ 0 ∷ 0 ∷ 0 ∷ 0x00 ∷ [])) 0 3 0
    ∷ []

-- ---- the rest

abbrev own-frame : List ℕ
own-frame = image 1 [] (0x0F ∷ 0x07 ∷ 0 ∷ 0x00 ∷ [])

abbrev step-below : List ℕ
step-below = image 3 minus_one (0x0F ∷ 0x07 ∷ 0 ∷ 0x16 ∷ 0 ∷ 1 ∷ 0x07 ∷ 2 ∷ 0x0A ∷ 2 ∷ 0x00 ∷ [])

abbrev idle : ℕ → List ℕ
idle r = image r [] (0x00 ∷ [])

abbrev two-takers : List ℕ
two-takers = image 3 (i 1 ++ i 7) (0x09 ∷ 1 ∷ 0x07 ∷ 0 ∷ 0x18 ∷ 14 ∷ 0 ∷ 0x18 ∷ 14 ∷ 0 ∷ 0x0D ∷ 0 ∷ 2 ∷ 0x00 ∷ 0x0C ∷ 0 ∷ 0x00 ∷ [])

abbrev waking : List ℕ
waking = image 2 [] (0x18 ∷ 13 ∷ 0 ∷ 0x18 ∷ 16 ∷ 0 ∷ 0x18 ∷ 18 ∷ 0 ∷ 0x04 ∷ 0x07 ∷ 1 ∷ 0x00 ∷ 0x05 ∷ 1 ∷ 0x00 ∷ 0x04 ∷ 0x00 ∷ 0x05 ∷ 1 ∷ 0x00 ∷ [])

abbrev spawning : List ℕ
spawning = image 1 [] (0x18 ∷ 7 ∷ 0 ∷ 0x18 ∷ 7 ∷ 0 ∷ 0x00 ∷ 0x00 ∷ [])

abbrev applying : List ℕ
applying = image 2 [] (0x0E ∷ 2 ∷ 0x07 ∷ 1 ∷ 0x19 ∷ 14 ∷ 0 ∷ 1 ∷ 0x1A ∷ 1 ∷ 0 ∷ 0x07 ∷ 0 ∷ 0x00 ∷ 0x03 ∷ 1 ∷ 0x07 ∷ 0 ∷ 0x00 ∷ [])

abbrev halting : List ℕ
halting = image 1 [] (0x18 ∷ 6 ∷ 0 ∷ 0x06 ∷ 0 ∷ 0x00 ∷ 0x04 ∷ 0x00 ∷ [])

abbrev switching : List ℕ → List ℕ
switching b = image 2 b (0x17 ∷ 1 ∷ 6 ∷ 0 ∷ 9 ∷ 0 ∷ 0x04 ∷ 0x04 ∷ 0x00 ∷ 0x00 ∷ [])

abbrev touching : List ℕ
touching = image 2 [] (0x18 ∷ 7 ∷ 0 ∷ 0x04 ∷ 0x07 ∷ 1 ∷ 0x00 ∷ 0x01 ∷ 5 ∷ 0 ∷ 0 ∷ 0 ∷ 0 ∷ 0 ∷ 0 ∷ 0 ∷ 0x05 ∷ 1 ∷ 0x07 ∷ 0 ∷ 0x00 ∷ [])

abbrev eight : List Share
eight = share 2 1 ∷ share 2 1 ∷ share 2 1 ∷ share 2 1 ∷ share 2 1 ∷ share 2 1 ∷ share 2 1 ∷ share 4 2 ∷ []

unfoldable pub own : List Sheet
own =
    -- a region that does not start at 0: seat 1 at 4, seat 7 at 14
    sheet (share 4 2 ∷ share 8 2 ∷ []) (message 1 (loads own-frame) ∷ turns 1 (0 ∷ 0 ∷ 0 ∷ []))
    (ok (0 ∷ 0 ∷ 1 ∷ []) ∷ status 1 Finished ∷ result 1 (Some (Location 4)) ∷ status 0 Vacant ∷ [])
    ∷ sheet eight (message 7 (loads own-frame) ∷ turns 7 (0 ∷ 0 ∷ 0 ∷ []))
    (ok (0 ∷ 0 ∷ 1 ∷ []) ∷ status 7 Finished ∷ result 7 (Some (Location 14)) ∷ [])
    -- one below its region, the neighbour vacant and full
    ∷ sheet (share 4 2 ∷ share 8 2 ∷ []) (message 1 (loads step-below) ∷ turns 1 (0 ∷ 0 ∷ 0 ∷ 0 ∷ 0 ∷ []))
    (ok (0 ∷ 0 ∷ 0 ∷ 0 ∷ 3 ∷ []) ∷ refused-at 1 1 8 ∷ [])
    ∷ sheet (share 4 2 ∷ share 8 2 ∷ []) (message 0 (loads (idle 4)) ∷ message 1 (loads step-below) ∷ turns 1 (0 ∷ 0 ∷ 0 ∷ 0 ∷ 0 ∷ []))
    (answers (placed 0 0 ∷ placed 0 0 ∷ map number (0 ∷ 0 ∷ 0 ∷ 0 ∷ 3 ∷ [])) ∷ refused-at 1 1 8 ∷ status 0 Running ∷ [])
    -- GET across the end of its region into the neighbour's first cell
    ∷ sheet (share 4 2 ∷ share 4 2 ∷ []) (message 1 (loads (idle 4)) ∷ message 0 (loads (image 4 [] (0x0F ∷ 0x07 ∷ 0 ∷ 0x1A ∷ 0 ∷ 4 ∷ 0x00 ∷ []))) ∷ turns 0 (0 ∷ 0 ∷ 0 ∷ []))
    (answers (placed 0 0 ∷ placed 0 0 ∷ map number (0 ∷ 0 ∷ 3 ∷ [])) ∷ refused-at 0 1 3 ∷ [])
    -- answer 4 for a seat that is not there, 5 for one that is vacant, whatever the pick
    ∷ sheet (share 8 4 ∷ []) (turns 1 (0 ∷ []) ++ turns 255 (255 ∷ []) ++ turns 0 (0 ∷ 9 ∷ []))
    (answers (map number (4 ∷ 4 ∷ 5 ∷ 5 ∷ [])) ∷ status 0 Vacant ∷ steps 0 0 ∷ [])
    -- answer 6 changes nothing and is no step; 5 comes before 6 once the claim is finished
    ∷ usual (idle 1) (1 ∷ 255 ∷ 0 ∷ 0 ∷ 7 ∷ []) (ok (6 ∷ 6 ∷ 1 ∷ 5 ∷ 5 ∷ []) ∷ status 0 Finished ∷ steps 0 1 ∷ live 0 0 ∷ [])
    -- a refused thread stays, its step counts once, and its fellow does not run on
    ∷ usual halting (0 ∷ 0 ∷ 0 ∷ 1 ∷ []) (ok (0 ∷ 3 ∷ 5 ∷ 5 ∷ []) ∷ status 0 Refused ∷ refused-at 0 3 3 ∷ steps 0 2 ∷ live 0 2 ∷ order 0 (3 ∷ 6 ∷ []) ∷ [])
    -- the other seat goes on where one is refused
    ∷ sheet (share 8 4 ∷ share 8 4 ∷ []) (message 0 (loads halting) ∷ message 1 (loads own-frame) ∷ turns 0 (0 ∷ 0 ∷ []) ++ turns 1 (0 ∷ []) ++ turns 0 (0 ∷ []) ++ turns 1 (0 ∷ 0 ∷ []))
    (answers (placed 0 0 ∷ placed 0 0 ∷ map number (0 ∷ 3 ∷ 0 ∷ 5 ∷ 0 ∷ 1 ∷ [])) ∷ status 0 Refused ∷ status 1 Finished ∷ result 1 (Some (Location 8)) ∷ [])
    -- woken among other ready threads: newest first, at the back
    ∷ usual waking (0 ∷ 0 ∷ 0 ∷ 1 ∷ 2 ∷ 0 ∷ 0 ∷ []) (ok (0 ∷ 0 ∷ 0 ∷ 2 ∷ 2 ∷ 0 ∷ 0 ∷ []) ∷ order 0 (12 ∷ 16 ∷ 20 ∷ 15 ∷ []) ∷ live 0 4 ∷ [])
    -- newest is who waited last, wherever it stood
    ∷ usual waking (0 ∷ 0 ∷ 0 ∷ 3 ∷ 1 ∷ 0 ∷ 0 ∷ []) (ok (0 ∷ 0 ∷ 0 ∷ 2 ∷ 2 ∷ 0 ∷ 0 ∷ []) ∷ order 0 (12 ∷ 16 ∷ 15 ∷ 20 ∷ []) ∷ live 0 4 ∷ [])
    -- two takers of one M-cell: both wake, one takes, the other waits again
    ∷ usual two-takers (0 ∷ 0 ∷ 0 ∷ 0 ∷ 1 ∷ 1 ∷ 0 ∷ 1 ∷ 2 ∷ []) (ok (0 ∷ 0 ∷ 0 ∷ 0 ∷ 2 ∷ 2 ∷ 0 ∷ 0 ∷ 2 ∷ []) ∷ order 0 (13 ∷ 16 ∷ []) ∷ live 0 3 ∷ [])
    ∷ usual two-takers (0 ∷ 0 ∷ 0 ∷ 0 ∷ 1 ∷ 1 ∷ 0 ∷ 1 ∷ 2 ∷ 0 ∷ 0 ∷ []) (ok (0 ∷ 0 ∷ 0 ∷ 0 ∷ 2 ∷ 2 ∷ 0 ∷ 0 ∷ 2 ∷ 1 ∷ 1 ∷ []) ∷ status 0 Deadlocked ∷ live 0 1 ∷ used 0 4 ∷ steps 0 11 ∷ [])
    -- an ended thread's room is used again; without it there is none left
    ∷ sheet (share 8 2 ∷ []) (message 0 (loads spawning) ∷ turns 0 (0 ∷ 1 ∷ 0 ∷ 0 ∷ 0 ∷ [])) (ok (0 ∷ 1 ∷ 0 ∷ 1 ∷ 1 ∷ []) ∷ status 0 Finished ∷ live 0 0 ∷ steps 0 5 ∷ [])
    ∷ sheet (share 8 2 ∷ []) (message 0 (loads spawning) ∷ turns 0 (0 ∷ 0 ∷ [])) (ok (0 ∷ 3 ∷ []) ∷ refused-at 0 8 3 ∷ live 0 2 ∷ [])
    -- APPLY on a made frame, and GET that waits for it
    ∷ usual applying (0 ∷ 0 ∷ 0 ∷ 0 ∷ 0 ∷ 0 ∷ 1 ∷ 1 ∷ 0 ∷ 0 ∷ []) (ok (0 ∷ 0 ∷ 0 ∷ 2 ∷ 0 ∷ 0 ∷ 0 ∷ 0 ∷ 1 ∷ 1 ∷ []) ∷ status 0 Finished ∷ result 0 (Some (Boolean true)) ∷ used 0 4 ∷ steps 0 10 ∷ [])
    -- FRAME into the last cells
    ∷ usual (image 2 [] (0x0E ∷ 6 ∷ 0x00 ∷ [])) (0 ∷ 0 ∷ []) (ok (0 ∷ 1 ∷ []) ∷ status 0 Finished ∷ used 0 8 ∷ [])
    -- SWITCH: true to a, false to b
    ∷ usual (switching yes) (0 ∷ []) (ok (0 ∷ []) ∷ order 0 (6 ∷ []) ∷ [])
    ∷ usual (switching (0x83 ∷ 0 ∷ [])) (0 ∷ []) (ok (0 ∷ []) ∷ order 0 (9 ∷ []) ∷ [])
    -- TOUCH of an empty cell drops the accumulator too, and the thread goes on behind it
    ∷ usual touching (0 ∷ 1 ∷ 1 ∷ 0 ∷ 0 ∷ 1 ∷ []) (ok (0 ∷ 0 ∷ 2 ∷ 0 ∷ 0 ∷ 0 ∷ []) ∷ result 0 (Some Nil) ∷ order 0 (6 ∷ 20 ∷ []) ∷ [])
    -- STORE and SPAWN keep the accumulator
    ∷ usual (image 2 [] (0x01 ∷ 5 ∷ 0 ∷ 0 ∷ 0 ∷ 0 ∷ 0 ∷ 0 ∷ 0 ∷ 0x07 ∷ 1 ∷ 0x18 ∷ 16 ∷ 0 ∷ 0x07 ∷ 0 ∷ 0x00 ∷ [])) (0 ∷ 0 ∷ 0 ∷ 0 ∷ []) (ok (0 ∷ 0 ∷ 0 ∷ 0 ∷ []) ∷ result 0 (Some (Integer (pos 5))) ∷ live 0 2 ∷ [])
    -- LESS and EQUAL give booleans; EQUAL of two booleans; 0.0 equals -0.0
    ∷ usual (image 3 (i 3 ++ i 5) (0x14 ∷ 1 ∷ 2 ∷ 0x07 ∷ 0 ∷ 0x00 ∷ [])) (0 ∷ 0 ∷ []) (result 0 (Some (Boolean true)) ∷ [])
    ∷ usual (image 3 (yes ++ 0x83 ∷ 0 ∷ []) (0x15 ∷ 1 ∷ 2 ∷ 0x07 ∷ 0 ∷ 0x00 ∷ [])) (0 ∷ 0 ∷ []) (result 0 (Some (Boolean false)) ∷ [])
    ∷ usual (image 3 (none ++ 0x82 ∷ 0 ∷ 0 ∷ 0 ∷ 0 ∷ 0 ∷ 0 ∷ 0 ∷ 0x80 ∷ []) (0x15 ∷ 1 ∷ 2 ∷ 0x07 ∷ 0 ∷ 0x00 ∷ [])) (0 ∷ 0 ∷ []) (result 0 (Some (Boolean true)) ∷ [])
    -- DIV toward zero: -1 DIV 2 is 0
    ∷ usual (image 3 (minus_one ++ i 2) (0x13 ∷ 1 ∷ 2 ∷ 0x07 ∷ 0 ∷ 0x00 ∷ [])) (0 ∷ 0 ∷ []) (result 0 (Some (Integer (pos 0))) ∷ [])
    -- nothing is no nil: the result cell is empty, and then nil
    ∷ usual (image 1 [] (0x04 ∷ 0x07 ∷ 0 ∷ 0x00 ∷ [])) (0 ∷ []) (result 0 None ∷ [])
    ∷ usual (image 1 [] (0x04 ∷ 0x07 ∷ 0 ∷ 0x00 ∷ [])) (0 ∷ 0 ∷ []) (result 0 (Some Nil) ∷ [])
    -- loads: 20; 23 before 24; 24; 22 before 23; then one that goes through, and 21 before all but 20
    ∷ sheet (share 8 4 ∷ [])
    (message 1 (loads (idle 1)) ∷ message 0 (loads (0x80 ∷ 9 ∷ 0x85 ∷ [])) ∷ message 0 (loads (idle 9)) ∷ message 0 (loads (replicate 4097 0)) ∷ message 0 (loads (idle 8))
    ∷ message 0 (loads (idle 1)) ∷ message 0 (loads []) ∷ message 0 (loads (replicate 4097 0)) ∷ [])
    (answers (placed 20 0 ∷ placed 23 3 ∷ placed 24 0 ∷ placed 22 0 ∷ placed 0 0 ∷ placed 21 0 ∷ placed 21 0 ∷ placed 21 0 ∷ []) ∷ used 0 8 ∷ live 0 1 ∷ steps 0 0 ∷ [])
    -- clear: 20, 35, then what opening gave; and a load again, whose steps start at 0
    ∷ sheet (share 8 4 ∷ [])
    (message 1 clears ∷ message 1 asks ∷ message 0 clears ∷ message 0 asks ∷ message 0 (loads (idle 3)) ∷ message 0 (picks 0) ∷ message 0 clears ∷ message 0 asks ∷ message 0 clears ∷ message 0 (loads (idle 2)) ∷ [])
    (answers (number 20 ∷ told 20 blank ∷ number 35 ∷ told 0 blank ∷ placed 0 0 ∷ number 1 ∷ number 0 ∷ told 0 blank ∷ number 35 ∷ placed 0 0 ∷ []) ∷ status 0 Running ∷ steps 0 0 ∷ used 0 2 ∷ [])
    ∷ []

-- "7: step count is 4,294,967,295": a claim of one END that ran so many steps, with this row
abbrev late : ℕ → List Live → Claim
late n row =
    record {
      seat = record { cells = 8; threads = 4; start = 0 };
      image = idle 1;
      cells = [];
      row = row;
      refusal = 0;
      halted = 0;
      steps = n;
    }

-- the claim's steps, its row, a pick, and what is answered
pub record Late : Type 0 where
  pub claim : Claim
  pub pick : ℕ
  pub answer : ℕ

abbrev answers-late : ℕ → List Live → ℕ → ℕ → Late
answers-late n row p a = record { claim = late n row; pick = p; answer = a }

abbrev one-ready : List Live
one-ready = readied (thread 0 0 Nil) ∷ []

unfoldable pub lates : List Late
lates =
    -- the last step that counts; none after it, and 7 comes before 6 and behind 5
    answers-late 4294967294 one-ready 0 1
    ∷ answers-late 4294967294 one-ready 9 6
    ∷ answers-late 4294967295 one-ready 0 7
    ∷ answers-late 4294967295 one-ready 9 7
    ∷ answers-late 4294967295 [] 9 5
    ∷ []
