-- What the answers of called functions say of the definitions that they meet. Assumes nothing.
use mathlib.Core.Path.{◌≡◌, sym, ap, ◌∙◌}
use mathlib.Core.Bool.{Bool, true, false}

pub failed : {r a : Bool} → r ≡ a → r ≡ false → a ≡ false
failed e n = sym e ∙ n

pub passed : {r a : Bool} → r ≡ a → r ≡ true → a ≡ true
passed e n = sym e ∙ n

-- an answer about what another call gave
pub told : {A B : Type 0} {r : B} {x y : A} (f : A → B) → r ≡ f x → x ≡ y → r ≡ f y
told f p q = p ∙ ap f q
