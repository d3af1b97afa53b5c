-- A seat's slices as lists, and what its threads stand on. Assumes nothing.
use Rattle.std.specs.Prelude.{ℕ, List}
use Rattle.laying.specs.Laid.{Parts, parts}
use Rattle.inspection.specs.declared.sound.Seat.{Seat}
use Rattle.inspection.specs.declared.sound.Ground as Slices

abbrev pub parts_of : Seat → Parts
parts_of s = parts s.book.now s.tags.now s.words.now s.heads.now s.accs.now s.image.now

-- the cells: their tags and words, how many are used, and the location of the first; the image, and where its code starts
pub record Ground : Type 0 where
  pub tags : List ℕ
  pub words : List ℕ
  pub used : ℕ
  pub start : ℕ
  pub image : List ℕ
  pub code : ℕ

abbrev pub ground_of : Slices.Ground → Ground
ground_of g =
    record {
      tags = g.cells.tags.now;
      words = g.cells.words.now;
      used = g.cells.used;
      start = g.cells.start;
      image = g.image.now;
      code = g.code;
    }
