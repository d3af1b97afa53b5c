-- The loop that wakes, from the last record to the first. Assumes nothing.
use Rattle.std.proofs.Common.{◌≡◌, ℕ, zero, suc, ◌+◌, ◌-◌, ◌≤◌, ◌<◌, List, [], ◌∷◌, ◌++◌, length, get_or, take, drop, refl, sym, ap, ◌∙◌, arith}
use Rattle.std.proofs.lemmas.Bool.Decides.{nat_tests}
use Rattle.std.proofs.lemmas.Grind.{common_steps}
use Rattle.std.proofs.lemmas.List.{drop_more, take_more}
use lib.Seq.{append_snoc, drop-length, take-length, length-take-le, get_or_at}
use mathlib.Core.List.{append-nil}
use Rattle.threads.specs.Heads.{place_in, readied}
use Rattle.threads.specs.Row.{shifted, sifted, woken}

shift-front : (i v x : ℕ) (xs ws : List ℕ) → length xs ≡ i → shifted i v (xs ++ x ∷ ws) ≡ xs ++ (ws ++ v ∷ [])
unfolding shifted
shift-front zero v x [] ws l = refl
shift-front zero v x (y ∷ xs) ws l = absurd (omega arith)
shift-front (suc i) v x [] ws l = absurd (omega arith)
shift-front (suc i) v x (y ∷ xs) ws l = ap (λ (r : List ℕ). y ∷ r) (shift-front i v x xs ws (omega arith))

-- a list whose first j elements are those of xs: the last of them
module _ {j : ℕ} (xs ws : List ℕ) {ys : List ℕ} (z : 0 < j) (l : j ≤ length xs) (e : ys ≡ take j xs ++ ws) where
  inside : j - 1 < length xs
  inside = omega arith

  next : j - 1 + 1 ≡ j
  next = omega arith

  front : ys ≡ take (j - 1) xs ++ get_or xs (j - 1) 0 ∷ ws
  front = e ∙ rw (rw next at (take_more xs (j - 1) 0 inside)) (append_snoc (take (j - 1) xs) (get_or xs (j - 1) 0) ws)

  front-read : get_or ys (j - 1) 0 ≡ get_or xs (j - 1) 0
  front-read = rw front (get_or_at (take (j - 1) xs) (get_or xs (j - 1) 0) ws 0 (j - 1) (length-take-le (j - 1) xs (omega arith)))

  front-shifted : (v : ℕ) → shifted (j - 1) v ys ≡ take (j - 1) xs ++ (ws ++ v ∷ [])
  front-shifted v = rw front (shift-front (j - 1) v _ (take (j - 1) xs) ws (length-take-le (j - 1) xs (omega arith)))

  rest : drop (j - 1) xs ≡ get_or xs (j - 1) 0 ∷ drop j xs
  rest = rw next at (drop_more xs (j - 1) 0 inside)

-- the row where all from index j on are woken, and those before not yet
pub record Waking (p : ℕ) (h₀ a₀ h a : List ℕ) (j : ℕ) : Type 0 where
  pub below : j ≤ length h₀
  pub paired : length a₀ ≡ length h₀
  pub heads : h ≡ take j h₀ ++ woken p (drop j h₀)
  pub accs : a ≡ take j a₀ ++ sifted p (drop j h₀) (drop j a₀)

pub wake-start : {p : ℕ} {h a : List ℕ} → length a ≡ length h → Waking p h a h a (length h)
unfolding woken sifted
wake-start {p} {h} {a} e =
    record {
      below = omega arith;
      paired = e;
      heads = sym (rw (take-length h, drop-length h) (append-nil h));
      accs = sym (rw (drop-length h, ← e, take-length a, drop-length a) (append-nil a));
    }

module _ {p j n : ℕ} {h₀ a₀ h a : List ℕ} (w : Waking p h₀ a₀ h a j) (z : 0 < j) (e : n ≡ place_in (get_or h (j - 1) 0)) where
  pub wake-move : n ≡ p → Waking p h₀ a₀ (shifted (j - 1) (readied (get_or h (j - 1) 0)) h) (shifted (j - 1) (get_or a (j - 1) 0) a) (j - 1)
  unfolding woken sifted
  wake-move t =
      let k : j ≤ length a₀ = omega arith in
      let r = rest h₀ _ z w.below w.heads in
      let s = rest a₀ _ z k w.accs in
      let u = front-read h₀ _ z w.below w.heads in
      let v = front-read a₀ _ z k w.accs in
      record {
        below = omega arith;
        paired = w.paired;
        heads = grind (arith, common_steps, nat_tests, front-shifted h₀ _ z w.below w.heads (readied (get_or h (j - 1) 0)));
        accs = grind (arith, common_steps, nat_tests, front-shifted a₀ _ z k w.accs (get_or a (j - 1) 0));
      }

  pub wake-keep : (n ≡ p → ⊥) → Waking p h₀ a₀ h a (j - 1)
  unfolding woken sifted
  wake-keep t =
      let k : j ≤ length a₀ = omega arith in
      let r = rest h₀ _ z w.below w.heads in
      let s = rest a₀ _ z k w.accs in
      let u = front-read h₀ _ z w.below w.heads in
      record {
        below = omega arith;
        paired = w.paired;
        heads = grind (arith, common_steps, nat_tests, front h₀ _ z w.below w.heads);
        accs = grind (arith, common_steps, nat_tests, front a₀ _ z k w.accs);
      }
