-- The row of thread records, as heads and accumulators' words: searched, and written after an effect. Assumes nothing.
use Rattle.std.specs.Prelude.{ℕ, Result, Ok, Err, zero, suc, ◌+◌, ◌-◌, ◌||◌, List, [], ◌∷◌, ◌++◌, length, take, drop, set, eqb, ltb}
use Rattle.std.specs.Prelude.{if◌then◌else◌}
use Rattle.value.specs.Coding.{word_of}
use Rattle.rules.specs.declared.Thread.{Thread}
use Rattle.rules.specs.declared.Effect.{Effect}
use Rattle.rules.specs.declared.Effect.TheVariants.{Goes, Ends, Waits, Fills, Empties, Makes, Spawns, Refuses}
use Rattle.threads.specs.Heads.{place_in, ready_place, readied, wait_place, head_of}

-- the place of the pick-th ready record of a row that starts at index i, with n ready before it; else how many are ready
unfoldable pub found_by : {A : Type 0} → (A → ℕ) → ℕ → ℕ → ℕ → List A → Result ℕ ℕ
found_by place pick i n [] = Err n
found_by place pick i n (t ∷ ts) =
    if eqb (place t) ready_place then (if eqb n pick then Ok i else found_by place pick (i + 1) (n + 1) ts) else found_by place pick (i + 1) n ts

-- the same of heads
abbrev pub found_from : ℕ → ℕ → ℕ → List ℕ → Result ℕ ℕ
found_from = found_by place_in

-- the element at i taken out, and v put at the end
unfoldable pub shifted : ℕ → ℕ → List ℕ → List ℕ
shifted i v [] = []
shifted zero v (x ∷ xs) = xs ++ v ∷ []
shifted (suc i) v (x ∷ xs) = x ∷ shifted i v xs

-- the heads, those at this place taken out and put at the end, ready, the last of them first
unfoldable pub woken : ℕ → List ℕ → List ℕ
woken place [] = []
woken place (h ∷ hs) = if eqb (place_in h) place then woken place hs ++ readied h ∷ [] else h ∷ woken place hs

-- the words xs, moved as the heads hs are
unfoldable pub sifted : ℕ → List ℕ → List ℕ → List ℕ
sifted place [] xs = xs
sifted place (h ∷ hs) [] = []
sifted place (h ∷ hs) (x ∷ xs) = if eqb (place_in h) place then sifted place hs xs ++ x ∷ [] else x ∷ sifted place hs xs

pub record Row : Type 0 where
  pub heads : List ℕ
  pub accs : List ℕ

abbrev pub row : List ℕ → List ℕ → Row
row heads accs = record { heads = heads; accs = accs }

-- a record written; one taken out
unfoldable pub put_at : ℕ → ℕ → Thread → Row → Row
put_at i place t r = row (set r.heads i (head_of place t)) (set r.accs i (word_of t.acc))

unfoldable pub taken_at : ℕ → Row → Row
taken_at i r = row (shifted i 0 r.heads) (shifted i 0 r.accs)

-- waking among the first `live` records, where there are so many
unfoldable pub woken_at : ℕ → ℕ → Row → Row
woken_at live place r =
    if ltb (length r.heads) live || ltb (length r.accs) live then r
    else row (woken place (take live r.heads) ++ drop live r.heads) (sifted place (take live r.heads) (take live r.accs) ++ drop live r.accs)

-- the row after the effect of the record at i
unfoldable pub row_after : Effect → ℕ → ℕ → Row → Row
row_after (Goes t) i live r = put_at i ready_place t r
row_after Ends i live r = taken_at i r
row_after (Waits t l) i live r = put_at (live - 1) (wait_place l) t (taken_at i r)
row_after (Fills t k l v) i live r = woken_at live (wait_place l) (put_at i ready_place t r)
row_after (Empties t l) i live r = put_at i ready_place t r
row_after (Makes t k n) i live r = put_at i ready_place t r
row_after (Spawns t new) i live r = put_at live ready_place new (put_at i ready_place t r)
row_after (Refuses n) i live r = r
