-- A seat's parts after a load and after a clearing, over lists of numbers: what the code does, whatever the lists hold. Assumes nothing.
use Rattle.std.specs.Prelude.{ℕ, Result, Ok, Err, ◌+◌, ◌%◌, List, [], ◌∷◌, length, get_or, set, leb, eqb}
use Rattle.std.specs.Prelude.{if◌then◌else◌}
use Rattle.value.specs.declared.Value.{Value}
use Rattle.value.specs.declared.Value.TheVariants.{Nil}
use Rattle.value.specs.Coding.{tag_of, word_of}
use Rattle.image.specs.declared.reader.Layout.{Layout}
use Rattle.image.specs.Records.{inputs}
use Rattle.image.specs.Reading.{Verdict, read_image}
use Rattle.rules.specs.declared.CallRefusal.{CallRefusal}
use Rattle.rules.specs.declared.CallRefusal.TheVariants.{NotVacant, TooManySlots}
use Rattle.rules.specs.Refused.{call_number, place_of, turned_down}
use Rattle.rules.specs.Decide.{thread}
use Rattle.lent.specs.Runs.{wiped, overlaid}
use Rattle.threads.specs.Heads.{ready_place}
use Rattle.threads.specs.Row.{Row, row, put_at}
use Rattle.laying.specs.Laid.{Parts}

-- the book of a claim as it is before its first step: image length, start of the code, cells used, live threads
unfoldable pub book_for : ℕ → ℕ → ℕ → ℕ → List ℕ → List ℕ
book_for long code used live b = set (set (set (set (set (set (set b 2 long) 3 code) 4 used) 5 live) 6 0) 7 0) 8 0

-- ---- loading

-- what is known of an image before anything is written: "load: not vacant", "image over 4,096 bytes; bad image, with place; r over the cell share"
unfoldable pub judged_by : ℕ → Verdict → Result Layout CallRefusal
judged_by share (Err f) = Err (turned_down f)
judged_by share (Ok g) = if leb g.slots share then Ok g else Err TooManySlots

unfoldable pub judged : List ℕ → List ℕ → Result Layout CallRefusal
judged book image = if eqb (get_or book 2 0) 0 then judged_by (get_or book 0 0) (read_image image) else Err NotVacant

pub record Cells : Type 0 where
  pub tags : List ℕ
  pub words : List ℕ

abbrev pub cells : List ℕ → List ℕ → Cells
cells tags words = record { tags = tags; words = words }

-- values as full I-cells, from cell i on; the tag of a full I-cell is its value's
unfoldable pub filled_with : ℕ → List Value → Cells → Cells
filled_with i [] s = s
filled_with i (v ∷ vs) s = filled_with (i + 1) vs (cells (set s.tags i (tag_of v)) (set s.words i (word_of v)))

-- "one ready thread: position 0, frame at the region's start, accumulator nil"
unfoldable pub rooted : ℕ → Row → Row
rooted start r = put_at 0 ready_place (thread 0 (start % 65536) Nil) r

-- "Loading makes r empty I-cells at the region's start, fills the inputs, and makes one ready thread": in bare parts an empty I-cell stands already, as zeros
unfoldable pub lodged : ℕ → List ℕ → ℕ → ℕ → ℕ → Parts → Parts
lodged start image r n code p =
    record {
      book = book_for (length image % 4294967296) (code % 4294967296) r 1 p.book;
      tags = (filled_with 1 (inputs n image) (cells p.tags p.words)).tags;
      words = (filled_with 1 (inputs n image) (cells p.tags p.words)).words;
      heads = (rooted start (row p.heads p.accs)).heads;
      accs = (rooted start (row p.heads p.accs)).accs;
      image = overlaid image p.image;
    }

pub record Loaded : Type 0 where
  pub number : ℕ
  pub place : ℕ
  pub after : Parts

abbrev pub loaded : ℕ → ℕ → Parts → Loaded
loaded n place p = record { number = n; place = place; after = p }

unfoldable pub loaded_by : ℕ → List ℕ → Parts → Result Layout CallRefusal → Loaded
loaded_by start image p (Ok g) = loaded 0 0 (lodged start image g.slots g.inputs g.code p)
loaded_by start image p (Err r) = loaded (call_number r) (place_of r) p

unfoldable pub load_on : ℕ → List ℕ → Parts → Loaded
load_on start image p = loaded_by start image p (judged p.book image)

-- ---- clearing

unfoldable pub emptied : Parts → Parts
emptied p =
    record {
      book = book_for 0 0 0 0 p.book;
      tags = wiped 0 p.tags;
      words = wiped 0 p.words;
      heads = wiped 0 p.heads;
      accs = wiped 0 p.accs;
      image = wiped 0 p.image;
    }

pub record Cleared : Type 0 where
  pub number : ℕ
  pub after : Parts

abbrev pub cleared : ℕ → Parts → Cleared
cleared n p = record { number = n; after = p }

-- "35: clear: the seat is vacant"
unfoldable pub clear_on : Parts → Cleared
clear_on p = if eqb (get_or p.book 2 0) 0 then cleared 35 p else cleared 0 (emptied p)
