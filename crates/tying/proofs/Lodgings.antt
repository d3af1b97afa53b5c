-- On the parts of a sound claim the code's load and its clearing are the rules'. Assumes nothing.
use Prim.Native.Nat.{ℕ, ◌+◌, ◌-◌, ◌%◌, ◌≤◌, ◌<◌}
use native.Mathlib.Omega.{arith}
use native.Mathlib.Nat.{add-zero}
use mathlib.Core.Path.{◌≡◌, refl, sym, ap, ◌∙◌}
use mathlib.Core.Bool.{true}
use mathlib.Core.List.{List, [], ◌∷◌, ◌++◌, map, append_assoc, append-nil}
use lib.Dec.{ltb, eqb}
use lib.ListN.{length, get_or, set, replicate, length-append, length-map, length-replicate}
use borrow.Author.Tests.{le-leb}
use Rattle.std.specs.Prelude.{if◌then◌else◌, Ok, Err}
use Rattle.std.proofs.lemmas.Bool.Decides.{nat_tests}
use Rattle.laws.specs.Lists.{all, is_none}
use Rattle.value.specs.declared.Value.{Value}
use Rattle.value.specs.declared.Value.TheVariants.{Nil}
use Rattle.value.specs.Coding.{tag_of, word_of}
use Rattle.image.specs.declared.reader.Layout.{Layout}
use Rattle.image.specs.Records.{whole_at, inputs}
use Rattle.image.specs.Reading as Reading
use Rattle.image.specs.Reading.{Verdict, read_image, read_first}
use Rattle.image.specs.Promise.{Promise}
use Rattle.rules.specs.declared.Kind.TheVariants.{Icell}
use Rattle.rules.specs.declared.CallRefusal.TheVariants.{NotVacant}
use Rattle.rules.specs.Decide.{thread}
use Rattle.rules.specs.Claim.{Seat, Claim, Cell, empty, full, ready, readied}
use Rattle.rules.specs.Turn.{Turned, code_of}
use Rattle.rules.specs.Calls as Rules
use Rattle.rules.specs.Calls.{bare, root_frame, Loading, loading, load_by, load, clear}
use Rattle.rules.specs.Sound.{is_bare, seat_sound}
use Rattle.soundness.proofs.Claims.{promise}
use Rattle.soundness.proofs.Loads.{root-length}
use Rattle.lent.specs.Runs.{wiped, overlaid}
use Rattle.cells.specs.Lent.{kind_bit, tag_for}
use Rattle.threads.specs.Row.{Row}
use Rattle.laying.specs.Laid.{spread, cell_tag, cell_word, place_number, head_number, acc_number, laid_book, laid_claim, parts}
use Rattle.laying.proofs.Spread.{length-spread, spread-nil, spread-add, spread-still, spread-over}
use Rattle.laying.proofs.Fitting.{live-32}
use Rattle.std.proofs.lemmas.List.{map-id}
use Rattle.laying.proofs.Rows.{laid_row, row-add}
use Rattle.laying.proofs.Fits.{Seated, fits, none_is}
use Rattle.lodging.specs.Lodged.{book_for, judged_by, judged, Cells, cells, filled_with, rooted, lodged, Loaded, loaded, loaded_by, load_on, emptied, Cleared, cleared, clear_on}
use Rattle.tying.proofs.Turns.{none-length}

-- a load and a clearing of the rules, laid out
abbrev pub load_told : Loading → Loaded
load_told t = loaded t.number t.place (laid_claim t.claim)

abbrev pub clear_told : Turned → Cleared
clear_told t = cleared t.answer (laid_claim t.claim)

-- ---- lists written over zeros

module _ {A : Type 0} (f : A → ℕ) where
  pub wiped-spread : (n : ℕ) (xs : List A) → length xs ≤ n → wiped 0 (spread f n xs) ≡ spread f n []
  unfolding wiped
  wiped-spread n xs l = rw (length-spread f n xs l) (sym (spread-nil f n))

pub overlaid-spread : (n : ℕ) (xs : List ℕ) → length xs ≤ n → overlaid xs (spread (λ b. b) n []) ≡ spread (λ b. b) n xs
unfolding overlaid
overlaid-spread n xs l =
    rw (length-spread (λ (b : ℕ). b) n [] (omega arith), le-leb (length xs) n l, spread-still (λ (b : ℕ). b) n [] (length xs) 0 refl (omega arith))
    (rw (map-id xs, length-replicate {A = ℕ} (length xs) 0) at (spread-over (λ (b : ℕ). b) n (replicate (length xs) 0) xs (sym (length-replicate {A = ℕ} (length xs) 0))))

-- ---- a frame laid out

abbrev laid_cells : ℕ → List Cell → Cells
laid_cells n xs = cells (spread cell_tag n xs) (spread cell_word n xs)

module _ (n : ℕ) (xs : List Cell) where
  cell-filled : (v : Value) → length xs < n → cells (set (spread cell_tag n xs) (length xs) (tag_of v)) (set (spread cell_word n xs) (length xs) (word_of v)) ≡ laid_cells n (xs ++ full Icell v ∷ [])
  unfolding cell_tag cell_word tag_for kind_bit
  cell-filled v l = rw (← spread-add cell_tag n xs (full Icell v) l, ← spread-add cell_word n xs (full Icell v) l, add-zero (tag_of v))

  -- an empty I-cell is zeros
  cells-still : (k : ℕ) → length xs + k ≤ n → laid_cells n xs ≡ laid_cells n (xs ++ replicate k (empty Icell))
  unfolding cell_tag cell_word kind_bit
  cells-still k l = rw (spread-still cell_tag n xs k (empty Icell) refl l, spread-still cell_word n xs k (empty Icell) refl l)

-- values filled in behind cells that stand already
pub filled-behind : (n : ℕ) (xs : List Cell) (vs : List Value) → length xs + length vs ≤ n → filled_with (length xs) vs (laid_cells n xs) ≡ laid_cells n (xs ++ map (full Icell) vs)
unfolding filled_with
filled-behind n xs [] l = simp append-nil
filled-behind n xs (v ∷ vs) l =
    let a = cell-filled n xs v (omega arith) in
    let b = filled-behind n (xs ++ full Icell v ∷ []) vs (simp length-append (omega arith)) in
    grind (arith, length-append {A = Cell}, append_assoc {A = Cell})

pub root-filled : (n r : ℕ) (vs : List Value) → length vs < r → r ≤ n → filled_with 1 vs (laid_cells n []) ≡ laid_cells n (root_frame r vs)
unfolding root_frame
root-filled n r vs l h =
    let a = length-map vs (full Icell) in
    ap (filled_with 1 vs) (cells-still n [] 1 (omega arith)) ∙ filled-behind n (empty Icell ∷ []) vs (omega arith)
    ∙ cells-still n (empty Icell ∷ map (full Icell) vs) (r - 1 - length vs) (omega arith)

pub root-row : (start : ℕ) → start < 65536 → rooted start (laid_row 32 []) ≡ laid_row 32 (readied (thread 0 start Nil) ∷ [])
unfolding rooted place_number
root-row start l = grind (arith, row-add 32 [] 0 (thread 0 start Nil) ready refl (omega arith))

-- ---- loading

-- a vacant seat that is sound is what opening gave it
pub vacant-bare : (c : Claim) → is_none c.image ≡ true → seat_sound c ≡ true → c ≡ bare c.seat
unfolding seat_sound is_bare
vacant-bare c n s = grind (arith, nat_tests, none_is)

parts_same : {b b' i i' : List ℕ} {x x' : Cells} {r r' : Row} → b ≡ b' → x ≡ x' → r ≡ r' → i ≡ i'
    → parts b x.tags x.words r.heads r.accs i ≡ parts b' x'.tags x'.words r'.heads r'.accs i'
parts_same {b' = b'} {i' = i'} {x' = x'} {r = r} p q u v =
    rw (p, v) (ap (λ (y : Cells). parts b' y.tags y.words r.heads r.accs i') q ∙ ap (λ (y : Row). parts b' x'.tags x'.words y.heads y.accs i') u)

module _ (s : Seat) (image : List ℕ) (g : Layout) (e : read_image image ≡ Ok g) (p : Promise image g.slots g.inputs g.code) where
  book-loaded : book_for (length image % 4294967296) (g.code % 4294967296) g.slots 1 (laid_book (bare s)) ≡ laid_book (Rules.loaded s image g.slots g.inputs)
  unfolding book_for laid_book Rules.loaded code_of
  book-loaded =
      let a = p.short in
      let b = p.inside in
      let h = p.input-count in
      let q = p.room in
      grind (arith, root-length)

  lodged-same : s.start < 65536 → g.slots ≤ s.cells → lodged s.start image g.slots g.inputs g.code (laid_claim (bare s)) ≡ laid_claim (Rules.loaded s image g.slots g.inputs)
  unfolding lodged laid_claim Rules.loaded
  lodged-same l h =
      let a = p.input-count in
      let b = p.room in
      parts_same book-loaded (root-filled s.cells g.slots (inputs g.inputs image) (omega arith) h) (root-row s.start l) (overlaid-spread 4096 image p.short)

module _ (c : Claim) (s : Seated c) (o : seat_sound c ≡ true) where
  judged-laid : (image : List ℕ) → judged (laid_claim c).book image ≡ (if is_none c.image then judged_by c.seat.cells (read_image image) else Err NotVacant)
  unfolding judged laid_claim laid_book
  judged-laid image = rw (none-length c.image)

  module _ (image : List ℕ) (bytes : all (λ b. ltb b 256) image ≡ true) where
    vacant-loads : is_none c.image ≡ true → (v : Verdict) → read_image image ≡ v → loaded_by c.seat.start image (laid_claim c) (judged_by c.seat.cells v) ≡ load_told (load_by c image v)
    unfolding loaded_by judged_by load_by Reading.number_of Reading.place_of
    vacant-loads m (Err f) e = grind arith
    vacant-loads m (Ok g) e =
        let a = s.region in
        let b = vacant-bare c m o in
        let q = lodged-same c.seat image g e (promise image bytes e) (omega arith) in
        grind (arith, nat_tests)

    pub load_same : load_on c.seat.start image (laid_claim c) ≡ load_told (load c image)
    unfolding load_on load loaded_by
    load_same = rw (judged-laid image) (grind (arith, vacant-loads))

  -- ---- clearing

  book-emptied : book_for 0 0 0 0 (laid_book c) ≡ laid_book (bare c.seat)
  unfolding book_for laid_book code_of read_image read_first whole_at
  book-emptied = refl

  emptied-same : emptied (laid_claim c) ≡ laid_claim (bare c.seat)
  unfolding emptied laid_claim
  emptied-same =
      let f = fits c s o in
      rw (
        book-emptied,
        wiped-spread cell_tag c.seat.cells c.cells f.used,
        wiped-spread cell_word c.seat.cells c.cells f.used,
        wiped-spread head_number 32 c.row (live-32 c f),
        wiped-spread acc_number 32 c.row (live-32 c f),
        wiped-spread (λ (b : ℕ). b) 4096 c.image f.image,
      )

  vacant-laid : eqb (get_or (laid_claim c).book 2 0) 0 ≡ is_none c.image
  unfolding laid_claim laid_book
  vacant-laid = none-length c.image

  pub clear-same : clear_on (laid_claim c) ≡ clear_told (clear c)
  unfolding clear_on clear
  clear-same = rw vacant-laid (grind (arith, emptied-same))
