-- What one record at a place says, of the code or before it. Assumes nothing.
use Prim.Native.Nat.{ℕ, ◌<◌, ◌≤◌}
use native.Mathlib.Omega.{arith}
use mathlib.Core.Path.{◌≡◌, sym, ap, ◌∙◌}
use mathlib.Core.List.{List}
use lib.ListN.{length, get_or}
use lib.Dec.{leb, ltb}
use borrow.Author.Tests.{leb-true}
use Rattle.std.specs.Prelude.{Option, Some, None, Result, Ok}
use Rattle.laws.proofs.Choice.{chosen}
use Rattle.laws.proofs.Absurd.{clash}
use Rattle.kinds.specs.Table.{Kind}
use Rattle.image.specs.declared.records.Stop.{Stop}
use Rattle.image.specs.Records.{behind, body_at, placed, whole_by, whole_at}

-- a whole record at `at`, and the place m behind it
pub record Stands {A : Type 0} (kinds : ℕ → Kind A) (l : List ℕ) (at : ℕ) (a : A) (m : ℕ) : Type 0 where
  pub means : (kinds (get_or l at 0)).means (body_at (kinds (get_or l at 0)) l at) ≡ a
  pub ends : behind (kinds (get_or l at 0)) at ≡ m
  pub passed : (at < m) × (m ≤ length l)

placed-as : {A : Type 0} {a : A} {m : ℕ} (x : Option A) (n : ℕ) → placed x n ≡ Ok (a, m) → (x ≡ Some a) × (n ≡ m)
unfolding placed
placed-as {a = a} {m = m} (Some b) n e =
    let p : (b, n) ≡ (a, m) = cc in
    (ap (λ (q : _ × ℕ). Some q.0) p, ap (λ (q : _ × ℕ). q.1) p)
placed-as None n e = clash (cc)

pub stands-there : {A : Type 0} {table : ℕ → Kind (Option A)} {l : List ℕ} {at m : ℕ} {a : A} → whole_at table l at ≡ Ok (a, m) → Stands table l at (Some a) m
unfolding whole_at whole_by
stands-there {table = table} {l = l} {at = at} e =
    chosen (ltb at (length l)) _ _ e
    (λ _ e. chosen (leb (behind (table (get_or l at 0)) at) (length l)) _ _ e
    (λ i e. let j = placed-as _ _ e in record { means = j.0; ends = j.1; passed = omega (arith, leb-true (behind (table (get_or l at 0)) at) (length l) i) })
    (λ _ e. clash (cc)))
    (λ _ e. clash (cc))

-- as a search cites it
pub passed_by : {A : Type 0} (table : ℕ → Kind (Option A)) (l : List ℕ) (at m : ℕ) (a : A) → whole_at table l at ≡ Ok (a, m) → (at < m) × (m ≤ length l)
passed_by table l at m a e = (stands-there e).passed

-- an answer y, as code names its parts
pub stands-as : {A : Type 0} {x y : Result (A × ℕ) Stop} {a b : A} {m : ℕ} → x ≡ y → x ≡ Ok (a, m) → a ≡ b → y ≡ Ok (b, m)
stands-as {A} {m = m} e f g = sym e ∙ f ∙ ap (λ (a : A). Ok (a, m)) g
