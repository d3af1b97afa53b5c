-- A claim read back from its seat's parts, and the test that the parts hold a claim and nothing else: read and written again, they are the same. Assumes nothing.
use Rattle.std.specs.Prelude.{ℕ, zero, suc, ◌-◌, Bool, false, ◌&&◌, List, [], ◌∷◌, length, get_or, take, drop, eqb, leb}
use Rattle.std.specs.Prelude.{if◌then◌else◌}
use Rattle.laws.specs.Lists.{all}
use Rattle.image.specs.Reading.{read_image}
use Rattle.rules.specs.declared.Kind.TheVariants.{Icell}
use Rattle.rules.specs.declared.Slot.{Slot}
use Rattle.rules.specs.declared.Slot.TheVariants.{Missing, Empty, Full}
use Rattle.rules.specs.Claim.{Claim, Cell, empty, full, Place, ready, on, Live}
use Rattle.rules.specs.Turn.{code_of}
use Rattle.lent.specs.Runs.{is_zero}
use Rattle.cells.specs.Lent.{slot_at}
use Rattle.threads.specs.Heads.{place_in, ready_place, thread_in}
use Rattle.laying.specs.Laid.{Parts, cell_tag, cell_word, head_number, acc_number}

-- the first k pairs read as elements; and whether each, written again, gives the same two numbers, and the rest are zero
unfoldable pub unspread : {A : Type 0} → (ℕ → ℕ → A) → ℕ → List ℕ → List ℕ → List A
unspread g zero ts ws = []
unspread g (suc k) [] ws = []
unspread g (suc k) (t ∷ ts) [] = []
unspread g (suc k) (t ∷ ts) (w ∷ ws) = g t w ∷ unspread g k ts ws

unfoldable pub canonical : {A : Type 0} → (A → ℕ) → (A → ℕ) → (ℕ → ℕ → A) → ℕ → List ℕ → List ℕ → Bool
canonical f h g zero ts ws = all is_zero ts && all is_zero ws
canonical f h g (suc k) [] ws = false
canonical f h g (suc k) (t ∷ ts) [] = false
canonical f h g (suc k) (t ∷ ts) (w ∷ ws) = eqb (f (g t w)) t && (eqb (h (g t w)) w && canonical f h g k ts ws)

unfoldable pub as_cell : Slot → Cell
as_cell Missing = empty Icell
as_cell (Empty k) = empty k
as_cell (Full k v) = full k v

unfoldable pub cell_read : ℕ → ℕ → Cell
cell_read t w = as_cell (slot_at (t ∷ []) (w ∷ []) 0)

unfoldable pub place_read : ℕ → Place
place_read p = if eqb p ready_place then ready else on (p - 2)

unfoldable pub live_read : ℕ → ℕ → Live
live_read head word = record { thread = thread_in head word; place = place_read (place_in head) }

-- the claim in a seat's parts, its region starting at `start`
unfoldable pub claim_in : ℕ → Parts → Claim
claim_in start p =
    record {
      seat = record { cells = get_or p.book 0 0; threads = get_or p.book 1 0; start = start };
      image = take (get_or p.book 2 0) p.image;
      cells = unspread cell_read (get_or p.book 4 0) p.tags p.words;
      row = unspread live_read (get_or p.book 5 0) p.heads p.accs;
      refusal = get_or p.book 6 0;
      halted = get_or p.book 7 0;
      steps = get_or p.book 8 0;
    }

-- the parts have their lengths, hold a claim, and are zero elsewhere
unfoldable pub well_laid : Parts → Bool
well_laid p =
    eqb (length p.book) 9 && (eqb (length p.tags) (get_or p.book 0 0) && (eqb (length p.words) (get_or p.book 0 0)
    && (eqb (length p.heads) 32 && (eqb (length p.accs) 32 && (eqb (length p.image) 4096
    && (leb (get_or p.book 2 0) 4096 && (all is_zero (drop (get_or p.book 2 0) p.image)
    && (eqb (get_or p.book 3 0) (code_of (read_image (take (get_or p.book 2 0) p.image)))
    && (leb (get_or p.book 4 0) (get_or p.book 0 0) && (leb (get_or p.book 5 0) 32
    && (canonical cell_tag cell_word cell_read (get_or p.book 4 0) p.tags p.words
    && canonical head_number acc_number live_read (get_or p.book 5 0) p.heads p.accs)))))))))))
