-- A list written as two rows of numbers is read back; and rows that hold a list and zeros are that list, written. Assumes nothing.
use Prim.Native.Nat.{ℕ, zero, suc, ◌-◌, ◌≤◌}
use native.Mathlib.Omega.{arith}
use mathlib.Core.Path.{◌≡◌, refl, sym, ap, ◌∙◌}
use mathlib.Core.Bool.{true, ◌&&◌}
use mathlib.Core.List.{List, [], ◌∷◌}
use lib.Dec.{eqb}
use lib.ListN.{length, take, drop, replicate, take-append-drop, length-drop}
use lib.Seq.{drop_at, length-take-le}
use borrow.Author.Tests.{eqb-true, eq-eqb}
use Rattle.std.proofs.lemmas.List.{map-id}
use Rattle.laws.specs.Lists.{all}
use Rattle.laws.proofs.Absurd.{clash, below-zero}
use Rattle.laws.proofs.Choice.{both, first, second}
use Rattle.laws.proofs.Every.{All, all_cons}
use Rattle.lent.specs.Runs.{is_zero}
use Rattle.laying.specs.Laid.{spread}
use Rattle.laying.specs.Back.{unspread, canonical}
use Rattle.laying.proofs.Spread.{spread-nil, spread-cons, spread-take}

cons_same : {x y : ℕ} {xs ys : List ℕ} → x ≡ y → xs ≡ ys → x ∷ xs ≡ y ∷ ys
cons_same p q = rw (p, q)

-- zeros
pub zeros-are : (ts : List ℕ) → all is_zero ts ≡ true → replicate (length ts) 0 ≡ ts
unfolding all is_zero
zeros-are [] e = refl
zeros-are (t ∷ ts) e = cons_same (sym (eqb-true t 0 (first (eqb t 0) (all is_zero ts) e))) (zeros-are ts (second (eqb t 0) (all is_zero ts) e))

pub zeros-pass : (n : ℕ) → all is_zero (replicate n 0) ≡ true
unfolding all is_zero
zeros-pass zero = refl
zeros-pass (suc n) = zeros-pass n

-- xs, written by f and h, is ts and ws, and is k long
pub record Written {A : Type 0} (f h : A → ℕ) (k : ℕ) (ts ws : List ℕ) (xs : List A) : Type 0 where
  pub left : spread f (length ts) xs ≡ ts
  pub right : spread h (length ws) xs ≡ ws
  pub long : length xs ≡ k

-- ts and ws hold xs and zeros, and give xs
pub record Given {A : Type 0} (f h : A → ℕ) (g : ℕ → ℕ → A) (n : ℕ) (xs : List A) : Type 0 where
  pub holds : canonical f h g (length xs) (spread f n xs) (spread h n xs) ≡ true
  pub same : unspread g (length xs) (spread f n xs) (spread h n xs) ≡ xs

module _ {A : Type 0} (f h : A → ℕ) (g : ℕ → ℕ → A) where
  pub back : (k : ℕ) (ts ws : List ℕ) → canonical f h g k ts ws ≡ true → Written f h k ts ws (unspread g k ts ws)
  unfolding canonical unspread
  back zero ts ws e = record {
    left = spread-nil f (length ts) ∙ zeros-are ts (first (all is_zero ts) (all is_zero ws) e);
    right = spread-nil h (length ws) ∙ zeros-are ws (second (all is_zero ts) (all is_zero ws) e);
    long = refl;
  }
  back (suc k) [] ws e = clash (cc)
  back (suc k) (t ∷ ts) [] e = clash (cc)
  back (suc k) (t ∷ ts) (w ∷ ws) e =
      let p = first (eqb (f (g t w)) t) (eqb (h (g t w)) w && canonical f h g k ts ws) e in
      let q = second (eqb (f (g t w)) t) (eqb (h (g t w)) w && canonical f h g k ts ws) e in
      let b = back k ts ws (second (eqb (h (g t w)) w) (canonical f h g k ts ws) q) in
      record {
        left = spread-cons f (length ts) (g t w) (unspread g k ts ws) ∙ cons_same (eqb-true (f (g t w)) t p) b.left;
        right = spread-cons h (length ws) (g t w) (unspread g k ts ws) ∙ cons_same (eqb-true (h (g t w)) w (first (eqb (h (g t w)) w) (canonical f h g k ts ws) q)) b.right;
        long = ap suc b.long;
      }

  pub forth : (n : ℕ) (xs : List A) → length xs ≤ n → All (λ x. g (f x) (h x) ≡ x) xs → Given f h g n xs
  unfolding canonical unspread
  forth n [] l a = record { holds = rw (spread-nil f n, spread-nil h n) (both (zeros-pass n) (zeros-pass n)); same = refl }
  forth zero (x ∷ xs) l a = below-zero (length xs) (omega arith)
  forth (suc n) (x ∷ xs) l (all_cons p a) =
      let r = forth n xs (omega arith) a in
      record {
        holds = rw (spread-cons f n x xs, spread-cons h n x xs, p, eq-eqb (f x) (f x) refl, eq-eqb (h x) (h x) refl) r.holds;
        same = rw (spread-cons f n x xs, spread-cons h n x xs, p, r.same);
      }

-- numbers, written as they are
pub plain_back : (n m : ℕ) (s : List ℕ) → length s ≡ n → m ≤ n → all is_zero (drop m s) ≡ true → spread (λ b. b) n (take m s) ≡ s
unfolding spread
plain_back n m s e h z =
    let a = length-take-le m s (omega arith) in
    let d = length-drop m s in
    let k : n - length (take m s) ≡ length (drop m s) = omega arith in
    rw (map-id (take m s), k, zeros-are (drop m s) z) (take-append-drop m s)

pub plain-take : (n : ℕ) (xs : List ℕ) → take (length xs) (spread (λ b. b) n xs) ≡ xs
plain-take n xs = spread-take (λ b. b) n xs ∙ map-id xs

pub plain-drop : (n : ℕ) (xs : List ℕ) → all is_zero (drop (length xs) (spread (λ b. b) n xs)) ≡ true
unfolding spread
plain-drop n xs = rw (map-id xs, drop_at xs (replicate (n - length xs) 0) (length xs) refl) (zeros-pass (n - length xs))
