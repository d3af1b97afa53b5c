-- A first value that the operation does not take is refused as a wrong kind, whatever the second. Assumes nothing.
use mathlib.Core.Path.{◌≡◌, refl}
use mathlib.Core.Bool.{false}
use Rattle.laws.proofs.Absurd.{clash}
use Rattle.std.specs.Prelude.{Err}
use Rattle.value.specs.declared.refusals.Refusal.TheVariants.{WrongKind}
use Rattle.value.specs.Wanted.{as_boolean}
use Rattle.value.specs.declared.Value.{Value}
use Rattle.value.specs.declared.Value.TheVariants.{Integer, Float, Boolean, Nil, Location}
use Rattle.numbers.specs.declared.Operation.{Operation}
use Rattle.numbers.specs.Operations.{takes_first, on_booleans, with_boolean, operated}

pub judged-first : (o : Operation) (a b : Value) → takes_first o a ≡ false → operated o a b ≡ Err WrongKind
unfolding takes_first operated with_boolean as_boolean on_booleans
judged-first o (Integer x) b e = clash (cc)
judged-first o (Float x) b e = clash (cc)
judged-first o (Boolean x) (Integer y) e = refl
judged-first o (Boolean x) (Float y) e = refl
judged-first o (Boolean x) (Boolean y) e = rw e
judged-first o (Boolean x) Nil e = refl
judged-first o (Boolean x) (Location y) e = refl
judged-first o Nil b e = refl
judged-first o (Location l) b e = refl
