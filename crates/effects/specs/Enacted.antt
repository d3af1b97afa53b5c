-- A seat's parts, and what an effect leaves of them, over lists of numbers: what the code does, whatever the lists hold. Assumes nothing.
use Rattle.std.specs.Prelude.{ℕ, List}
use Rattle.rules.specs.declared.Effect.{Effect}
use Rattle.rules.specs.Turn.{answer_of}
use Rattle.cells.specs.Written.{tags_after, words_after}
use Rattle.threads.specs.Row.{row, row_after}
use Rattle.book.specs.Book.{tally_in, book_with, tally_after, room_in}

-- the parts that a turn writes
pub record Parts : Type 0 where
  pub book : List ℕ
  pub tags : List ℕ
  pub words : List ℕ
  pub heads : List ℕ
  pub accs : List ℕ

abbrev pub parts : List ℕ → List ℕ → List ℕ → List ℕ → List ℕ → Parts
parts book tags words heads accs = record { book = book; tags = tags; words = words; heads = heads; accs = accs }

pub record Turned : Type 0 where
  pub answer : ℕ
  pub after : Parts

abbrev pub turned : ℕ → Parts → Turned
turned a p = record { answer = a; after = p }

unfoldable pub performed : Effect → ℕ → ℕ → Parts → Parts
performed e start i p =
    record {
      book = book_with (tally_after e i (tally_in p.book)) p.book;
      tags = tags_after e (tally_in p.book).used start p.tags;
      words = words_after e (tally_in p.book).used start p.words;
      heads = (row_after e i (tally_in p.book).live (row p.heads p.accs)).heads;
      accs = (row_after e i (tally_in p.book).live (row p.heads p.accs)).accs;
    }

-- what is asked for, done if there is room, and its answer
unfoldable pub enacted : Effect → ℕ → ℕ → Parts → Turned
enacted e start i p = turned (answer_of (room_in (tally_in p.book) e)) (performed (room_in (tally_in p.book) e) start i p)
