-- What a seat's code writes after an effect is the claim that the rules come to, laid out. Assumes nothing.
use Prim.Native.Nat.{ℕ, ◌<◌}
use native.Mathlib.Omega.{arith}
use mathlib.Core.Path.{◌≡◌, ap}
use mathlib.Core.List.{List}
use lib.ListN.{length, length-set, length-append, length-replicate}
use Rattle.std.proofs.lemmas.Bool.Decides.{nat_tests}
use Rattle.rules.specs.declared.Effect.{Effect}
use Rattle.rules.specs.Claim.{Claim, put, perform}
use Rattle.soundness.proofs.Rows.{length-wake, length_without}
use Rattle.threads.specs.Row.{Row}
use Rattle.laying.specs.Laid.{laid_book}
use Rattle.laying.proofs.Fitting.{Fit, Roomy, live-32}
use Rattle.laying.proofs.Cells.{tags-same, words_same}
use Rattle.laying.proofs.Rows.{row_same}
use Rattle.book.specs.Book.{tally_in, book_with, sum_or, narrow, tally_after}
use Rattle.effects.specs.Enacted.{parts, performed}
use Rattle.tying.specs.Tied.{parts_of}

seat-kept : (e : Effect) (i : ℕ) (c : Claim) → (perform e i c).seat ≡ c.seat
unfolding perform
seat-kept e i c = grind arith

parts_same : {b t w b' t' w' : List ℕ} {r r' : Row} → b ≡ b' → t ≡ t' → w ≡ w' → r ≡ r' → parts b t w r.heads r.accs ≡ parts b' t' w' r'.heads r'.accs
parts_same {b'} {t'} {w'} p q s u = rw (p, q, s) (ap (λ (x : Row). parts b' t' w' x.heads x.accs) u)

module _ (c : Claim) (f : Fit c) (i : ℕ) (l : i < length c.row) (s : c.steps < 4294967295) where
  pub book-same : (e : Effect) → Roomy c e → book_with (tally_after e i (tally_in (laid_book c))) (laid_book c) ≡ laid_book (perform e i c)
  unfolding laid_book tally_in book_with tally_after perform put sum_or narrow
  book-same e r = let a = f.region in let b = live-32 c f in grind (arith, nat_tests, length-set, length-append, length-replicate, length-wake, length_without c.row i l)

  pub perform-same : (e : Effect) → Roomy c e → performed e c.seat.start i (parts_of c) ≡ parts_of (perform e i c)
  unfolding performed tally_in laid_book
  perform-same e r = parts_same (book-same e r) (rw (seat-kept e i c) (tags-same c f i e r)) (rw (seat-kept e i c) (words_same c f i e r)) (row_same c f i l e r)
