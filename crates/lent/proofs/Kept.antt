-- An element written over itself changes nothing, nor does one beside another that is written. Assumes nothing.
use Prim.Native.Nat.{ℕ}
use mathlib.Core.Path.{◌≡◌, sym, ap, ◌∙◌}
use mathlib.Core.Bool.{false}
use mathlib.Core.List.{List}
use lib.ListN.{get_or, set}
use lib.Seq.{get_or-set_other}
use lib.Dec.{eqb}
use borrow.Author.Tests.{eqb-false}
use Rattle.std.proofs.lemmas.List.{set-get_or}

pub set_same : {A : Type 0} (xs : List A) (i : ℕ) (d : A) → set xs i (get_or xs i d) ≡ xs
set_same = set-get_or

pub set-beside : (xs : List ℕ) (i j x : ℕ) → eqb i j ≡ false → set (set xs i x) j (get_or xs j 0) ≡ set xs i x
set-beside xs i j x n = ap (set (set xs i x) j) (sym (get_or-set_other xs i j x 0 (λ q. eqb-false i j n (sym q)))) ∙ set_same (set xs i x) j 0
