-- Document 01: "A state is sound exactly if ..", one test a clause, of claims. Assumes nothing.
use Rattle.std.specs.Prelude.{ℕ, Ok, Err, ◌+◌, ◌^◌, Bool, true, false, ◌&&◌, List, [], ◌∷◌, map, length, get_or, leb, ltb, eqb}
use Rattle.std.specs.Prelude.{if◌then◌else◌}
use Rattle.laws.specs.Lists.{all, is_none}
use Rattle.value.specs.Range.{well_formed}
use Rattle.image.specs.Reading.{Verdict, read_image, start}
use Rattle.rules.specs.declared.Slot.{Slot}
use Rattle.rules.specs.declared.Slot.TheVariants.{Missing, Empty, Full}
use Rattle.rules.specs.Claim.{Claim, Cell, empty, full, Place, ready, on, Live, look, is_ready, nobody}
use Rattle.rules.specs.Calls.{Machine, Share, may_open}

-- "values are well formed"
unfoldable pub cell_sound : Cell → Bool
cell_sound (empty k) = true
cell_sound (full k v) = well_formed v

-- "only empty cells have waiters"
unfoldable pub is_empty : Slot → Bool
is_empty Missing = false
is_empty (Empty k) = true
is_empty (Full k v) = false

-- "every live thread is in one place once": the row has one place a thread
unfoldable pub place_sound : Claim → Place → Bool
place_sound c ready = true
place_sound c (on l) = is_empty (look c l)

-- "at an instruction's start"
unfoldable pub live_sound : Claim → ℕ → Live → Bool
live_sound c code t =
    leb t.thread.frame 65535
    && (well_formed t.thread.acc && (start c.image code t.thread.position && place_sound c t.place))

-- "a refused claim has a refusal 1 to 9 and a ready thread at its position"
unfoldable pub refusal_sound : Claim → Bool
refusal_sound c =
    if eqb c.refusal 0 then eqb c.halted 0
    else leb c.refusal 9 && (ltb c.halted (length c.row) && is_ready (get_or c.row c.halted nobody))

-- "images pass the reader; used cells lie between r and the share; ..; live threads fit"
unfoldable pub claim_sound : Claim → Verdict → Bool
claim_sound c (Err f) = false
claim_sound c (Ok g) =
    all (λ b. ltb b 256) c.image
    && (leb g.slots (length c.cells) && (leb (length c.cells) c.seat.cells
    && (all cell_sound c.cells && (all (live_sound c g.code) c.row
    && (leb (length c.row) c.seat.threads && (refusal_sound c && ltb c.steps (2 ^ 32)))))))

-- "vacant seats are bare"
unfoldable pub is_bare : Claim → Bool
is_bare c = is_none c.cells && (is_none c.row && (eqb c.refusal 0 && (eqb c.halted 0 && eqb c.steps 0)))

unfoldable pub seat_sound : Claim → Bool
seat_sound c = if is_none c.image then is_bare c else claim_sound c (read_image c.image)

-- "shares obey the limits"; each region starts at the sum of the shares before it
unfoldable pub regions : ℕ → Machine → Bool
regions l [] = true
regions l (c ∷ cs) = eqb c.seat.start l && regions (l + c.seat.cells) cs

unfoldable pub shares_of : Machine → List Share
shares_of m = map (λ c. record { cells = c.seat.cells; threads = c.seat.threads }) m

unfoldable pub sound : Machine → Bool
sound m = may_open (shares_of m) && (regions 0 m && all seat_sound m)
