-- A cell's tag has room for its kind's bit. Assumes nothing.
use Prim.Native.Nat.{ℕ, ◌+◌, ◌<◌}
use native.Mathlib.Omega.{arith}
use mathlib.Core.Path.{◌≡◌, ap}
use Rattle.value.specs.declared.Value.{Value}
use Rattle.value.specs.declared.Value.TheVariants.{Integer, Float, Boolean, Nil, Location}
use Rattle.value.specs.declared.coding.Coded.{Coded}
use Rattle.value.specs.Coding.{tag_of, encoded}
use Rattle.rules.specs.declared.Kind.{Kind}
use Rattle.rules.specs.declared.Kind.TheVariants.{Icell, Mcell}
use Rattle.cells.specs.Lent.{kind_bit}

tag-low : (v : Value) → tag_of v < 8
unfolding tag_of
tag-low (Integer z) = omega arith
tag-low (Float x) = omega arith
tag-low (Boolean b) = omega arith
tag-low Nil = omega arith
tag-low (Location l) = omega arith

bit-low : (k : Kind) → kind_bit k < 9
unfolding kind_bit
bit-low Icell = omega arith
bit-low Mcell = omega arith

pub tag_fits : (x : Coded) (v : Value) (b : ℕ) (k : Kind) → x ≡ encoded v → b ≡ kind_bit k → x.tag + b < 65536
unfolding encoded
tag_fits x v b k e f =
    let q : x.tag ≡ tag_of v = ap (λ (y : Coded). y.tag) e in
    omega (arith, tag-low v, bit-low k)
