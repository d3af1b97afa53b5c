-- Document 01: "A state is sound exactly if ..", as the code tests one seat's parts, in its order. Assumes nothing.
use Rattle.std.specs.Prelude.{ℕ, Bool, true, false, ◌&&◌, List, [], ◌∷◌, length, get_or, take, drop, leb, ltb, eqb, Ok, Err}
use Rattle.std.specs.Prelude.{if◌then◌else◌}
use Rattle.laws.specs.Lists.{all}
use Rattle.value.specs.Range.{well_formed}
use Rattle.image.specs.declared.reader.Layout.{Layout}
use Rattle.image.specs.Reading as Reading
use Rattle.image.specs.Reading.{Verdict, read_image}
use Rattle.rules.specs.Claim.{Place, ready, on, Live}
use Rattle.rules.specs.Sound.{cell_sound, is_empty}
use Rattle.lent.specs.Runs.{is_zero}
use Rattle.cells.specs.Lent.{look_on}
use Rattle.threads.specs.Heads.{place_in, ready_place}
use Rattle.book.specs.declared.Tally.{Tally}
use Rattle.book.specs.Book.{tally_in}
use Rattle.laying.specs.Laid.{Parts, cell_tag, cell_word, head_number, acc_number}
use Rattle.laying.specs.Back.{unspread, canonical, cell_read, place_read, live_read}
use Rattle.inspection.specs.Seats.{Ground}

-- ---- pairs of numbers that stand for elements

-- two lists of one length, whose pairs all pass
unfoldable pub each_pair : {A : Type 0} → (A → ℕ → Bool) → List A → List ℕ → Bool
each_pair p [] [] = true
each_pair p [] (w ∷ ws) = false
each_pair p (t ∷ ts) [] = false
each_pair p (t ∷ ts) (w ∷ ws) = p t w && each_pair p ts ws

-- the first k pairs pass, and the rest are bare
unfoldable pub held_by : {A : Type 0} → (A → Bool) → (A → ℕ → Bool) → ℕ → List A → List ℕ → Bool
held_by bare p k ts ws =
    leb k (length ts) && (leb k (length ws) && (each_pair p (take k ts) (take k ws) && (all bare (drop k ts) && all is_zero (drop k ws))))

module _ {A : Type 0} (f h : A → ℕ) (g : ℕ → ℕ → A) (q : A → Bool) where
  -- two numbers, read and written again, are the same, and what they stand for passes
  unfoldable pub stands : ℕ → ℕ → Bool
  stands t w = eqb (f (g t w)) t && (eqb (h (g t w)) w && q (g t w))

  -- the first k pairs stand, and the rest are zero
  unfoldable pub held : ℕ → List ℕ → List ℕ → Bool
  held k ts ws = canonical f h g k ts ws && all q (unspread g k ts ws)

-- ---- cells

-- "values are well formed"
unfoldable pub cell_stands : ℕ → ℕ → Bool
cell_stands tag word = stands cell_tag cell_word cell_read cell_sound tag word

unfoldable pub store_stands : ℕ → List ℕ → List ℕ → Bool
store_stands used tags words = held cell_tag cell_word cell_read cell_sound used tags words

-- ---- threads

module _ (g : Ground) where
  -- "only empty cells have waiters"
  unfoldable pub place_on : Place → Bool
  place_on ready = true
  place_on (on l) = is_empty (look_on g.tags g.words g.used g.start l)

  -- "every live thread is in one place once": no record has the place 0
  unfoldable pub place_stands : ℕ → Bool
  place_stands place = if eqb place 0 then false else place_on (place_read place)

  -- "at an instruction's start"
  unfoldable pub live_on : Live → Bool
  live_on t =
      leb t.thread.frame 65535
      && (well_formed t.thread.acc && (Reading.start g.image g.code t.thread.position && place_on t.place))

  unfoldable pub record_stands : ℕ → ℕ → Bool
  record_stands head word = stands head_number acc_number live_read live_on head word

  unfoldable pub row_stands : ℕ → List ℕ → List ℕ → Bool
  row_stands live heads accs = held head_number acc_number live_read live_on live heads accs

-- ---- the book

-- "a refused claim has a refusal 1 to 9 and a ready thread at its position"
unfoldable pub refusal_stands : Tally → List ℕ → Bool
refusal_stands n heads =
    if eqb n.refusal 0 then eqb n.halted 0
    else leb n.refusal 9 && (ltb n.halted n.live && eqb (place_in (get_or heads n.halted 0)) ready_place)

-- "used cells lie between r and the share; ..; live threads fit"; the start of the code is the reader's
unfoldable pub numbers_stand : Tally → Layout → Bool
numbers_stand n g =
    eqb n.code g.code
    && (leb g.slots n.used && (leb n.used n.cells && (leb n.live n.threads && (leb n.live 32 && ltb n.steps 4294967296))))

-- "images pass the reader"
unfoldable pub accepted_stands : Tally → Verdict → Bool
accepted_stands n (Err f) = false
accepted_stands n (Ok g) = numbers_stand n g

-- ---- a seat

abbrev pub ground : Tally → ℕ → Parts → Ground
ground n start p =
    record {
      tags = p.tags;
      words = p.words;
      used = n.used;
      start = start;
      image = p.image;
      code = n.code;
    }

-- a claim in use, whose parts have no more of the image than its own
unfoldable pub claim_stands : Tally → ℕ → Parts → Bool
claim_stands n start p =
    accepted_stands n (read_image p.image)
    && (all (λ b. ltb b 256) p.image
    && (store_stands n.used p.tags p.words && (row_stands (ground n start p) n.live p.heads p.accs && refusal_stands n p.heads)))

-- "vacant seats are bare": nothing but the shares
unfoldable pub is_idle : Tally → Bool
is_idle n =
    eqb n.code 0
    && (eqb n.used 0 && (eqb n.live 0 && (eqb n.refusal 0 && (eqb n.halted 0 && eqb n.steps 0))))

-- zero wherever nothing is held
unfoldable pub parts_bare : List ℕ → List ℕ → List ℕ → List ℕ → List ℕ → Bool
parts_bare tags words heads accs image = all is_zero tags && (all is_zero words && (all is_zero heads && (all is_zero accs && all is_zero image)))

unfoldable pub vacant_stands : Tally → Parts → Bool
vacant_stands n p = is_idle n && parts_bare p.tags p.words p.heads p.accs p.image

-- "its buffers have their minimum lengths": of a seat, its parts have theirs
unfoldable pub lengths_stand : Parts → Bool
lengths_stand p =
    eqb (length p.book) 9
    && (eqb (length p.tags) (get_or p.book 0 0) && (eqb (length p.words) (get_or p.book 0 0)
    && (eqb (length p.heads) 32 && (eqb (length p.accs) 32 && eqb (length p.image) 4096))))

-- room for the image, and zeros behind it
unfoldable pub image_stands : ℕ → List ℕ → Bool
image_stands n image = leb n (length image) && all is_zero (drop n image)

-- the parts with no more of the image than its first n bytes
abbrev pub cut : ℕ → Parts → Parts
cut n p = record p { image = take n p.image }

unfoldable pub seat_stands : ℕ → Tally → Parts → Bool
seat_stands start n p =
    if eqb n.length 0 then vacant_stands n p else image_stands n.length p.image && claim_stands n start (cut n.length p)

unfoldable pub test_on : ℕ → Parts → Bool
test_on start p = lengths_stand p && seat_stands start (tally_in p.book) p
