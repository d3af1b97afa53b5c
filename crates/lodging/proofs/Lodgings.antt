-- What the calls of a load and of a clearing answered, put together: the parts written, and the number. Assumes nothing.
use Prim.Native.Nat.{ℕ, ◌%◌}
use mathlib.Core.Path.{◌≡◌, sym, ap, ◌∙◌}
use mathlib.Core.List.{List}
use lib.ListN.{length, get_or}
use borrow.Author.Tests.{eq-eqb, ne_eqb}
use Rattle.image.specs.Records.{inputs}
use Rattle.lent.specs.Runs.{wiped, overlaid}
use Rattle.threads.specs.Row.{Row, row}
use Rattle.laying.specs.Laid.{Parts, parts}
use Rattle.std.specs.Prelude.{Result, Ok, Err, IsErr, IsErrAnd}
use Rattle.laws.proofs.Absurd.{clash}
use Rattle.image.specs.declared.reader.Layout.{Layout}
use Rattle.rules.specs.declared.CallRefusal.{CallRefusal}
use Rattle.rules.specs.Refused.{answered, answered_at}
use Rattle.lodging.specs.Lodged.{book_for, judged, Cells, cells, filled_with, rooted, lodged, Loaded, loaded, loaded_by, load_on, emptied, cleared, clear_on}

abbrev together : List ℕ → Cells → Row → List ℕ → Loaded
together book c r image = loaded 0 0 (parts book c.tags c.words r.heads r.accs image)

module _ (start : ℕ) (image : List ℕ) (p : Parts) where
  judged-as : {j k : Result Layout CallRefusal} → j ≡ judged p.book image → j ≡ k → load_on start image p ≡ loaded_by start image p k
  unfolding load_on
  judged-as e f = ap (loaded_by start image p) (sym e ∙ f)

  pub turned_away : {j : Result Layout CallRefusal} {r : CallRefusal} (a : Result (Unit {0}) CallRefusal) → j ≡ judged p.book image → j ≡ Err r → IsErr a × IsErrAnd a (λ x. x ≡ r)
      → load_on start image p ≡ loaded (answered a) (answered_at a) p
  unfolding loaded_by
  turned_away (Ok x) e f h = clash (cc (h.0))
  turned_away (Err x) e f h = rw (h.1) (judged-as e f)

  pub lodged-in : {j : Result Layout CallRefusal} {g : Layout} {slots long from : ℕ} {b t w h a i : List ℕ} → j ≡ judged p.book image → j ≡ Ok g → slots ≡ g.slots
      → long ≡ length image % 4294967296 → from ≡ g.code % 4294967296 → b ≡ book_for long from slots 1 p.book
      → filled_with 1 (inputs g.inputs image) (cells p.tags p.words) ≡ cells t w → rooted start (row p.heads p.accs) ≡ row h a → i ≡ overlaid image p.image
      → load_on start image p ≡ loaded 0 0 (parts b t w h a i)
  unfolding loaded_by lodged
  lodged-in {b = b} {t = t} {w = w} {i = i} e f ps pl pf pb pc pr pi =
      judged-as e f ∙ rw (← ps, ← pl, ← pf, ← pb, ← pi) (ap (λ (x : Cells). together b x (rooted start (row p.heads p.accs)) i) pc ∙ ap (λ (x : Row). together b (cells t w) x i) pr)

module _ (p : Parts) {x : ℕ} (e : x ≡ get_or p.book 2 0) where
  pub left-vacant : x ≡ 0 → clear_on p ≡ cleared 35 p
  unfolding clear_on
  left-vacant z = rw (eq-eqb _ _ (sym e ∙ z))

  pub emptied-out : {b t w h a i : List ℕ} → (x ≡ 0 → ⊥) → b ≡ book_for 0 0 0 0 p.book → t ≡ wiped 0 p.tags → w ≡ wiped 0 p.words
      → h ≡ wiped 0 p.heads → a ≡ wiped 0 p.accs → i ≡ wiped 0 p.image → clear_on p ≡ cleared 0 (parts b t w h a i)
  unfolding clear_on emptied
  emptied-out z pb pt pw ph pa pi = rw (ne_eqb _ _ (λ f. z (e ∙ f)), pb, pt, pw, ph, pa, pi)
