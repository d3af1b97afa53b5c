-- Two lists tested pair by pair: the loop, and what it says of the elements that the pairs stand for. Assumes nothing.
use Prim.Native.Nat.{ℕ, zero, suc, ◌≤◌, ◌<◌}
use native.Mathlib.Omega.{arith}
use mathlib.Core.Path.{◌≡◌, refl, sym, ap, ◌∙◌}
use mathlib.Core.Bool.{Bool, true, false, ◌&&◌}
use mathlib.Core.List.{List, [], ◌∷◌}
use lib.Dec.{eqb, leb}
use lib.ListN.{length, take, drop}
use borrow.Author.Tests.{leb-true, leb-false}
use Rattle.laws.specs.Lists.{all}
use Rattle.laws.proofs.Absurd.{below-zero}
use Rattle.lent.specs.Runs.{is_zero}
use Rattle.rules.specs.Sound.{cell_sound}
use Rattle.laying.specs.Laid.{cell_tag, cell_word, head_number, acc_number}
use Rattle.laying.specs.Back.{unspread, canonical, cell_read, live_read}
use Rattle.inspection.specs.Seats.{Ground}
use Rattle.inspection.specs.Tests.{each_pair, held_by, stands, held, cell_stands, store_stands, live_on, record_stands, row_stands}

-- ---- the loop

pub uneven : {A : Type 0} (p : A → ℕ → Bool) (ts : List A) (ws : List ℕ) → (length ws ≡ length ts → ⊥) → false ≡ each_pair p ts ws
unfolding each_pair
uneven p [] [] h = absurd (h refl)
uneven p [] (w ∷ ws) h = refl
uneven p (t ∷ ts) [] h = refl
uneven p (t ∷ ts) (w ∷ ws) h = rw (← uneven p ts ws (λ e. h (ap suc e))) (by (p t w))
  where
    by : (b : Bool) → false ≡ (b && false)
    by true = refl
    by false = refl

-- what is left to test, us and vs, is what was to be tested
pub record Paired {A : Type 0} (p : A → ℕ → Bool) (ts : List A) (ws : List ℕ) (us : List A) (vs : List ℕ) : Type 0 where
  pub even : length us ≡ length vs
  pub same : each_pair p ts ws ≡ each_pair p us vs

module _ {A : Type 0} {p : A → ℕ → Bool} {ts us : List A} {ws vs : List ℕ} (b : Paired p ts ws us vs) where
  pub pair_end : us ≡ [] → vs ≡ [] → true ≡ each_pair p ts ws
  unfolding each_pair
  pair_end d e = rw (b.same, d, e)

  module _ {t : A} {w : ℕ} {us' : List A} {vs' : List ℕ} (d : us ≡ t ∷ us') (e : vs ≡ w ∷ vs') where
    here : each_pair p ts ws ≡ (p t w && each_pair p us' vs')
    unfolding each_pair
    here = rw (b.same, d, e)

    pub pair-on : p t w ≡ true → Paired p ts ws us' vs'
    pair-on k = let n = b.even in record { even = omega (arith, ap length d, ap length e); same = here ∙ rw k }

    pub pair-off : p t w ≡ false → false ≡ each_pair p ts ws
    pair-off k = sym (here ∙ rw k)

-- ---- the elements

merged : (a b q c d e z : Bool) → (c && d) ≡ (e && z) → ((a && (b && c)) && (q && d)) ≡ (((a && (b && q)) && e) && z)
merged true true true c d e z h = h
merged true true false true d e z h = refl
merged true true false false d e z h = refl
merged true false q c d e z h = refl
merged false b q c d e z h = refl

off : (a b : Bool) → (a && (b && false)) ≡ false
off true true = refl
off true false = refl
off false b = refl

module _ {A : Type 0} (f h : A → ℕ) (g : ℕ → ℕ → A) (q : A → Bool) where
  long-held : (k : ℕ) (ts ws : List ℕ) → k ≤ length ts → k ≤ length ws
      → held f h g q k ts ws ≡ (each_pair (stands f h g q) (take k ts) (take k ws) && (all is_zero (drop k ts) && all is_zero (drop k ws)))
  unfolding held canonical unspread each_pair stands all
  long-held zero ts ws m n = by (all is_zero ts && all is_zero ws)
    where
      by : (b : Bool) → (b && true) ≡ b
      by true = refl
      by false = refl
  long-held (suc k) [] ws m n = below-zero k (omega arith)
  long-held (suc k) (t ∷ ts) [] m n = below-zero k (omega arith)
  long-held (suc k) (t ∷ ts) (w ∷ ws) m n =
      merged (eqb (f (g t w)) t) (eqb (h (g t w)) w) (q (g t w)) _ _ _ _ (long-held k ts ws (omega arith) (omega arith))

  short-left : (k : ℕ) (ts ws : List ℕ) → length ts < k → canonical f h g k ts ws ≡ false
  unfolding canonical
  short-left zero ts ws l = below-zero (length ts) l
  short-left (suc k) [] ws l = refl
  short-left (suc k) (t ∷ ts) [] l = refl
  short-left (suc k) (t ∷ ts) (w ∷ ws) l = rw (short-left k ts ws (omega arith)) (off (eqb (f (g t w)) t) (eqb (h (g t w)) w))

  short-right : (k : ℕ) (ts ws : List ℕ) → length ws < k → canonical f h g k ts ws ≡ false
  unfolding canonical
  short-right zero ts ws l = below-zero (length ws) l
  short-right (suc k) [] ws l = refl
  short-right (suc k) (t ∷ ts) [] l = refl
  short-right (suc k) (t ∷ ts) (w ∷ ws) l = rw (short-right k ts ws (omega arith)) (off (eqb (f (g t w)) t) (eqb (h (g t w)) w))

  -- the first k pairs stand and the rest are zero exactly if the rows hold k elements that pass, and no more
  pub held_is : (k : ℕ) (ts ws : List ℕ) → held_by is_zero (stands f h g q) k ts ws ≡ held f h g q k ts ws
  unfolding held_by
  held_is k ts ws = by (leb k (length ts)) refl (leb k (length ws)) refl
    where
      passed : Bool
      passed = each_pair (stands f h g q) (take k ts) (take k ws) && (all is_zero (drop k ts) && all is_zero (drop k ws))

      by : (a : Bool) → leb k (length ts) ≡ a → (b : Bool) → leb k (length ws) ≡ b → (a && (b && passed)) ≡ held f h g q k ts ws
      by true m true n = sym (long-held k ts ws (leb-true _ _ m) (leb-true _ _ n))
      by true m false n = unfold held in rw (short-right k ts ws (leb-false _ _ n))
      by false m b n = unfold held in rw (short-left k ts ws (leb-false _ _ m))

-- the used cells, and the live threads
pub store_is : (k : ℕ) (ts ws : List ℕ) → store_stands k ts ws ≡ held_by is_zero cell_stands k ts ws
unfolding store_stands cell_stands
store_is k ts ws = sym (held_is cell_tag cell_word cell_read cell_sound k ts ws)

pub row_is : (g : Ground) (k : ℕ) (ts ws : List ℕ) → row_stands g k ts ws ≡ held_by is_zero (record_stands g) k ts ws
unfolding row_stands record_stands
row_is g k ts ws = sym (held_is head_number acc_number live_read (live_on g) k ts ws)
