-- A choice by a test, taken apart. Assumes nothing.
use mathlib.Core.Path.{◌≡◌, refl}
use mathlib.Core.Bool.{Bool, true, false, ◌&&◌}
use Rattle.std.specs.Prelude.{if◌then◌else◌}

pub chosen : {A X : Type 0} (t : Bool) (a b : A) {d : A} → (if t then a else b) ≡ d → (t ≡ true → a ≡ d → X) → (t ≡ false → b ≡ d → X) → X
chosen true a b e f g = f refl e
chosen false a b e f g = g refl e

-- a test comes out one way or the other
pub tested : {X : Type 0} (t : Bool) → (t ≡ true → X) → (t ≡ false → X) → X
tested true f g = f refl
tested false f g = g refl

-- both of two tests hold
pub both : {a b : Bool} → a ≡ true → b ≡ true → (a && b) ≡ true
both p q = rw (p, q)

pub first : (a b : Bool) → (a && b) ≡ true → a ≡ true
first true b e = refl
first false b e = e

pub second : (a b : Bool) → (a && b) ≡ true → b ≡ true
second true b e = e
second false true e = refl
second false false e = e

pub only-first : (a b : Bool) → b ≡ true → (a && b) ≡ a
only-first true b e = e
only-first false b e = refl

pub parted : {X : Type 0} (a b : Bool) → (a && b) ≡ true → (a ≡ true → b ≡ true → X) → X
parted a b e k = k (first a b e) (second a b e)

-- what holds of what either side gives holds of the choice
pub either_way : {A : Type 0} (P : A → Type 0) (t : Bool) {a b : A} → (t ≡ true → P a) → (t ≡ false → P b) → P (if t then a else b)
either_way P true f g = f refl
either_way P false f g = g refl
