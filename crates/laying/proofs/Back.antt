-- A claim that fits, laid out, is well laid and is read back; parts that are well laid are the claim in them, laid out. Assumes nothing.
use Prim.Native.Nat.{ℕ, ◌+◌, ◌-◌}
use native.Mathlib.Omega.{arith}
use mathlib.Core.Path.{◌≡◌, refl, sym, ap, ◌∙◌}
use mathlib.Core.Bool.{true}
use mathlib.Core.Option.{some}
use mathlib.Core.List.{List, [], ◌∷◌}
use lib.Dec.{eqb, leb}
use lib.ListN.{length, get_or, take, drop}
use lib.Seq.{length-take-le}
use borrow.Author.Tests.{eqb-true, eq-eqb, ne_eqb, leb-true, le-leb, lt-ltb}
use Rattle.laws.specs.Lists.{all}
use Rattle.laws.proofs.Absurd.{clash}
use Rattle.laws.proofs.Choice.{both, parted}
use Rattle.laws.proofs.Every.{all-also}
use Rattle.image.specs.Reading.{read_image}
use Rattle.rules.specs.Claim.{Claim, Cell, empty, full, Place, ready, on, Live, found}
use Rattle.rules.specs.Sound.{cell_sound}
use Rattle.rules.specs.Turn.{code_of}
use Rattle.lent.specs.Runs.{is_zero}
use Rattle.threads.specs.Heads.{wait_place}
use Rattle.laying.specs.Laid.{Parts, cell_tag, cell_word, place_number, head_number, acc_number, laid_book, laid_claim}
use Rattle.laying.specs.Back.{canonical, as_cell, cell_read, place_read, live_read, claim_in, well_laid}
use Rattle.laying.proofs.Spread.{length-spread}
use Rattle.laying.proofs.Fitting.{Numbered, Lives, Fit, live-32}
use Rattle.laying.proofs.Cells.{slot-at, slot-back}
use Rattle.laying.proofs.Heads.{thread-back, head-place}
use Rattle.laying.proofs.Pairs.{Given, back, forth, plain_back, plain-take, plain-drop}

-- ---- an element read back

cell-again : (x : Cell) → cell_sound x ≡ true → cell_read (cell_tag x) (cell_word x) ≡ x
unfolding cell_read
cell-again x s = ap as_cell (slot-at (cell_tag x ∷ []) (cell_word x ∷ []) 0 (omega arith) (omega arith) ∙ slot-back x s) ∙ by x
  where
    by : (x : Cell) → as_cell (found (some x)) ≡ x
    by (empty k) = unfold as_cell found in refl
    by (full k v) = unfold as_cell found in refl

place-again : (p : Place) → Numbered p → place_read (place_number p) ≡ p
unfolding place_read place_number wait_place
place-again ready h = refl
place-again (on l) h = let z : l + 2 - 2 ≡ l = omega arith in rw (lt-ltb l 65534 h, ne_eqb (l + 2) 1 (λ e. omega arith), z)

live-again : (t : Live) → Lives t → live_read (head_number t) (acc_number t) ≡ t
unfolding live_read
live-again t h = rw (thread-back t h.thread, head-place t, place-again t.place h.placed.place)

-- ---- a claim that fits

module _ (c : Claim) (f : Fit c) where
  cells-back : Given cell_tag cell_word cell_read c.seat.cells c.cells
  cells-back = forth cell_tag cell_word cell_read c.seat.cells c.cells f.used (all-also cell-again f.cells)

  row_back : Given head_number acc_number live_read 32 c.row
  row_back = forth head_number acc_number live_read 32 c.row (live-32 c f) (all-also live-again f.row)

  pub laid-back : claim_in c.seat.start (laid_claim c) ≡ c
  unfolding claim_in laid_claim laid_book
  laid-back = rw (plain-take 4096 c.image, cells-back.same, row_back.same)

  pub laid-well : well_laid (laid_claim c) ≡ true
  unfolding well_laid laid_claim laid_book
  laid-well =
      both refl
      (both (eq-eqb _ _ (length-spread cell_tag c.seat.cells c.cells f.used))
      (both (eq-eqb _ _ (length-spread cell_word c.seat.cells c.cells f.used))
      (both (eq-eqb _ _ (length-spread head_number 32 c.row (live-32 c f)))
      (both (eq-eqb _ _ (length-spread acc_number 32 c.row (live-32 c f)))
      (both (eq-eqb _ _ (length-spread (λ b. b) 4096 c.image f.image))
      (both (le-leb _ _ f.image)
      (both (plain-drop 4096 c.image)
      (both (eq-eqb _ _ (ap (λ (l : List ℕ). code_of (read_image l)) (sym (plain-take 4096 c.image))))
      (both (le-leb _ _ f.used)
      (both (le-leb _ _ (live-32 c f))
      (both cells-back.holds row_back.holds)))))))))))

-- ---- parts that are well laid

nine : (b : List ℕ) (n code m k : ℕ) → length b ≡ 9 → n ≡ get_or b 2 0 → get_or b 3 0 ≡ code → m ≡ get_or b 4 0 → k ≡ get_or b 5 0
    → get_or b 0 0 ∷ get_or b 1 0 ∷ n ∷ code ∷ m ∷ k ∷ get_or b 6 0 ∷ get_or b 7 0 ∷ get_or b 8 0 ∷ [] ≡ b
nine [] n code m k e p o q r = clash (cc)
nine (a0 ∷ []) n code m k e p o q r = clash (omega arith)
nine (a0 ∷ a1 ∷ []) n code m k e p o q r = clash (omega arith)
nine (a0 ∷ a1 ∷ a2 ∷ []) n code m k e p o q r = clash (omega arith)
nine (a0 ∷ a1 ∷ a2 ∷ a3 ∷ []) n code m k e p o q r = clash (omega arith)
nine (a0 ∷ a1 ∷ a2 ∷ a3 ∷ a4 ∷ []) n code m k e p o q r = clash (omega arith)
nine (a0 ∷ a1 ∷ a2 ∷ a3 ∷ a4 ∷ a5 ∷ []) n code m k e p o q r = clash (omega arith)
nine (a0 ∷ a1 ∷ a2 ∷ a3 ∷ a4 ∷ a5 ∷ a6 ∷ []) n code m k e p o q r = clash (omega arith)
nine (a0 ∷ a1 ∷ a2 ∷ a3 ∷ a4 ∷ a5 ∷ a6 ∷ a7 ∷ []) n code m k e p o q r = clash (omega arith)
nine (a0 ∷ a1 ∷ a2 ∷ a3 ∷ a4 ∷ a5 ∷ a6 ∷ a7 ∷ a8 ∷ []) n code m k e p o q r = rw (p, ← o, q, r)
nine (a0 ∷ a1 ∷ a2 ∷ a3 ∷ a4 ∷ a5 ∷ a6 ∷ a7 ∷ a8 ∷ a9 ∷ b) n code m k e p o q r = clash (omega arith)

module _ (start : ℕ) (p : Parts) where
  parts_are : {b t w h a i : List ℕ} → b ≡ p.book → t ≡ p.tags → w ≡ p.words → h ≡ p.heads → a ≡ p.accs → i ≡ p.image
      → ◌≡◌ {A = Parts} (record { book = b; tags = t; words = w; heads = h; accs = a; image = i }) p
  parts_are e1 e2 e3 e4 e5 e6 = rw (e1, e2, e3, e4, e5, e6)

  pub back-laid : well_laid p ≡ true → laid_claim (claim_in start p) ≡ p
  unfolding well_laid laid_claim laid_book claim_in
  back-laid e =
      parted (eqb (length p.book) 9) _ e λ book e.
      parted (eqb (length p.tags) (get_or p.book 0 0)) _ e λ tags e.
      parted (eqb (length p.words) (get_or p.book 0 0)) _ e λ words e.
      parted (eqb (length p.heads) 32) _ e λ heads e.
      parted (eqb (length p.accs) 32) _ e λ accs e.
      parted (eqb (length p.image) 4096) _ e λ image e.
      parted (leb (get_or p.book 2 0) 4096) _ e λ long e.
      parted (all is_zero (drop (get_or p.book 2 0) p.image)) _ e λ rest e.
      parted (eqb (get_or p.book 3 0) (code_of (read_image (take (get_or p.book 2 0) p.image)))) _ e λ code e.
      parted (leb (get_or p.book 4 0) (get_or p.book 0 0)) _ e λ used e.
      parted (leb (get_or p.book 5 0) 32) _ e λ live e.
      parted (canonical cell_tag cell_word cell_read (get_or p.book 4 0) p.tags p.words) _ e λ cells row.
      let cs = back cell_tag cell_word cell_read (get_or p.book 4 0) p.tags p.words cells in
      let rs = back head_number acc_number live_read (get_or p.book 5 0) p.heads p.accs row in
      let nt : length p.tags ≡ get_or p.book 0 0 = eqb-true _ _ tags in
      let nw : length p.words ≡ get_or p.book 0 0 = eqb-true _ _ words in
      let nh : length p.heads ≡ 32 = eqb-true _ _ heads in
      let na : length p.accs ≡ 32 = eqb-true _ _ accs in
      let i = eqb-true _ _ image in
      let l = leb-true _ _ long in
      parts_are
      (nine p.book _ _ _ _ (eqb-true _ _ book) (length-take-le (get_or p.book 2 0) p.image (omega arith)) (eqb-true _ _ code) cs.long rs.long)
      (rw nt at cs.left)
      (rw nw at cs.right)
      (rw nh at rs.left)
      (rw na at rs.right)
      (plain_back 4096 (get_or p.book 2 0) p.image i l rest)
