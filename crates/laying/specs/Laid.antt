-- A claim written into its seat's parts of the lent buffers: zero where nothing is held. Assumes nothing.
use Rattle.std.specs.Prelude.{ℕ, ◌-◌, List, [], ◌∷◌, ◌++◌, map, length, replicate}
use Rattle.value.specs.Coding.{word_of}
use Rattle.image.specs.Reading.{read_image}
use Rattle.rules.specs.Claim.{Claim, Cell, empty, full, Place, ready, on, Live}
use Rattle.rules.specs.Turn.{code_of}
use Rattle.cells.specs.Lent.{kind_bit, tag_for}
use Rattle.threads.specs.Heads.{ready_place, wait_place, head_of}

-- one number an element, and zeros up to n
unfoldable pub spread : {A : Type 0} → (A → ℕ) → ℕ → List A → List ℕ
spread f n xs = map f xs ++ replicate (n - length xs) 0

unfoldable pub cell_tag : Cell → ℕ
cell_tag (empty k) = kind_bit k
cell_tag (full k v) = tag_for k v

unfoldable pub cell_word : Cell → ℕ
cell_word (empty k) = 0
cell_word (full k v) = word_of v

unfoldable pub place_number : Place → ℕ
place_number ready = ready_place
place_number (on l) = wait_place l

unfoldable pub head_number : Live → ℕ
head_number t = head_of (place_number t.place) t.thread

unfoldable pub acc_number : Live → ℕ
acc_number t = word_of t.thread.acc

-- cell share, thread share, image length, start of the code, cells used, live threads, refusal, row place of the refused thread, steps
unfoldable pub laid_book : Claim → List ℕ
laid_book c =
    c.seat.cells ∷ c.seat.threads ∷ length c.image ∷ code_of (read_image c.image)
    ∷ length c.cells ∷ length c.row ∷ c.refusal ∷ c.halted ∷ c.steps ∷ []

pub record Parts : Type 0 where
  pub book : List ℕ
  pub tags : List ℕ
  pub words : List ℕ
  pub heads : List ℕ
  pub accs : List ℕ
  pub image : List ℕ

abbrev pub parts : List ℕ → List ℕ → List ℕ → List ℕ → List ℕ → List ℕ → Parts
parts book tags words heads accs image = record { book = book; tags = tags; words = words; heads = heads; accs = accs; image = image }

unfoldable pub laid_claim : Claim → Parts
laid_claim c =
    record {
      book = laid_book c;
      tags = spread cell_tag c.seat.cells c.cells;
      words = spread cell_word c.seat.cells c.cells;
      heads = spread head_number 32 c.row;
      accs = spread acc_number 32 c.row;
      image = spread (λ b. b) 4096 c.image;
    }
