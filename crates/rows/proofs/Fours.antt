-- A row of heads searched four at a time, as structs: the answer is the search's through all the heads. Assumes nothing.
use Prim.Native.Nat.{ℕ, zero, suc, ◌+◌, ◌-◌, ◌≤◌, ◌<◌}
use native.Mathlib.Omega.{arith}
use mathlib.Core.Path.{◌≡◌, refl, sym, ap, subst, ◌∙◌}
use mathlib.Core.List.{List, [], ◌∷◌}
use lib.ListN.{length, length-take, take, drop, drop_of_length-le}
use lib.Seq.{drop-drop}
use Rattle.laws.proofs.Lists.{rest-is}
use Rattle.std.proofs.lemmas.Grind.{common_steps}
use Rattle.std.proofs.lemmas.Bool.Decides.{nat_tests}
use Rattle.std.specs.Prelude.{Result, Ok, Err}
use Rattle.threads.specs.Row.{found_by, found_from}
use Rattle.rows.specs.Row.{thread_of, four_of, found_in}

-- four structs are searched as the four heads are
pub four_answers : (pick i n : ℕ) (hs : List ℕ) → found_in pick i n (four_of hs) ≡ found_from pick i n (take 4 hs)
unfolding found_by four_of thread_of
four_answers pick i n [] = refl
four_answers pick i n (a ∷ []) = refl
four_answers pick i n (a ∷ b ∷ []) = refl
four_answers pick i n (a ∷ b ∷ c ∷ []) = refl
four_answers pick i n (a ∷ b ∷ c ∷ d ∷ hs) = refl

-- an answer of some heads, and then of those behind them
abbrev onward : ℕ → ℕ → List ℕ → Result ℕ ℕ → Result ℕ ℕ
onward pick j hs (Ok k) = Ok k
onward pick j hs (Err n) = found_from pick j n hs

-- an answer counted from index i, with n ready before
abbrev moved : ℕ → ℕ → Result ℕ ℕ → Result ℕ ℕ
moved i n (Ok k) = Ok (i + k)
moved i n (Err m) = Err (n + m)

found-split : (z pick i n : ℕ) (hs : List ℕ) → found_from pick i n hs ≡ onward pick (i + z) (drop z hs) (found_from pick i n (take z hs))
unfolding found_by
found-split zero pick i n hs = let e : i ≡ i + 0 = omega arith in ap (λ (j : ℕ). found_from pick j n hs) e
found-split (suc z) pick i n [] = refl
found-split (suc z) pick i n (h ∷ hs) =
    let e : i + 1 + z ≡ i + suc z = omega arith in
    grind (arith, common_steps, found-split z pick (i + 1) (n + 1) hs, found-split z pick (i + 1) n hs)

found-moved : (i n pick k m : ℕ) (hs : List ℕ) → found_from (n + pick) (i + k) (n + m) hs ≡ moved i n (found_from pick k m hs)
unfolding found_by
found-moved i n pick k m [] = refl
found-moved i n pick k m (h ∷ hs) =
    grind (arith, common_steps, nat_tests, found-moved i n pick (k + 1) (m + 1) hs, found-moved i n pick (k + 1) m hs)

-- an answer is a record before the end, or no more ready than the pick
abbrev Bound : ℕ → ℕ → Result ℕ ℕ → Type 0
Bound end pick (Ok k) = k < end
Bound end pick (Err n) = n ≤ pick

found-bound : (pick i n : ℕ) (hs : List ℕ) → n ≤ pick → Bound (i + length hs) pick (found_from pick i n hs)
unfolding found_by
found-bound pick i n [] l = l
found-bound pick i n (h ∷ hs) l =
    let e : i + 1 + length hs ≡ i + suc (length hs) = omega arith in
    grind (arith, common_steps, nat_tests, found-bound pick (i + 1) (n + 1) hs, found-bound pick (i + 1) n hs l)

-- the heads from i on, as a part of the lent slice
abbrev rest : ℕ → List ℕ → List ℕ
rest i hs = take (length hs - i) (drop i hs)

-- what is found from head i on, with n ready before, is what is to be found
pub record Sought (pick : ℕ) (hs : List ℕ) (i n : ℕ) : Type 0 where
  pub few : n ≤ pick
  pub same : found_from pick 0 0 hs ≡ found_from pick i n (drop i hs)

pub fours-start : {pick : ℕ} {hs : List ℕ} → Sought pick hs 0 0
fours-start = record { few = omega arith; same = refl }

module _ {pick i n : ℕ} {hs : List ℕ} (s : Sought pick hs i n) where
  -- what the four heads from i on answer
  module _ {f : Result ℕ ℕ} (e : f ≡ found_from (pick - n) 0 0 (take 4 (rest i hs))) where
    bound : Bound (0 + length (take 4 (rest i hs))) (pick - n) f
    bound = subst (Bound (0 + length (take 4 (rest i hs))) (pick - n)) (sym e) (found-bound (pick - n) 0 0 (take 4 (rest i hs)) (omega arith))

    turn : found_from pick 0 0 hs ≡ onward pick (i + 4) (drop (i + 4) hs) (moved i n f)
    turn =
        let p : n + (pick - n) ≡ pick = omega (arith, s.few) in
        let a : i + 0 ≡ i = omega arith in
        let b : n + 0 ≡ n = omega arith in
        s.same ∙ found-split 4 pick i n (drop i hs)
        ∙ rw (drop-drop 4 i hs, e, rest-is i hs) (ap (onward pick (i + 4) (drop (i + 4) hs)) (rw (p, a, b) at (found-moved i n (pick - n) 0 0 (take 4 (drop i hs)))))

    module _ {k : ℕ} where
      pub fours-near : f ≡ Ok k → k < 4
      fours-near o = let b : k < 0 + length (take 4 (rest i hs)) = rw o at bound in omega (arith, length-take 4 (rest i hs))

      pub fours-here : f ≡ Ok k → Ok (i + k) ≡ found_from pick 0 0 hs
      fours-here o = sym (rw o at turn)

      pub fours-more : f ≡ Err k → Sought pick hs (i + 4) (n + k)
      fours-more o = let b : k ≤ pick - n = rw o at bound in record { few = omega (arith, s.few); same = rw o at turn }

  pub fours-end : length hs ≤ i → Err n ≡ found_from pick 0 0 hs
  unfolding found_by
  fours-end l = sym (s.same ∙ rw (drop_of_length-le hs l))
