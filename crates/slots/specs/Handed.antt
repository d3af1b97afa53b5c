-- The two tests that are lent what slots were refused by, and hand it on. A caller has it in a type E of its own, in which
-- `by r e` says that e stands for the refusal r; where E is Refusal itself they are the rules' (proofs/Handed.antt). Assumes nothing.
use Rattle.std.specs.Prelude.{◌≡◌, ℕ, ℤ, Result, Ok, Err, IsErrAnd, MatchBool}
use Rattle.value.specs.declared.Value.{Value}
use Rattle.value.specs.declared.refusals.Refusal.{Refusal}
use Rattle.value.specs.declared.refusals.Refusal.TheVariants.{WrongKind}
use Rattle.numbers.specs.declared.Operation.{Operation}
use Rattle.numbers.specs.Operations.{takes_first}
use Rattle.rules.specs.Tests.{size_of}
use Rattle.rules.specs.Decide.{with_first}

module _ {E : Type 0} (by : Refusal → E → Type 0) where
  -- the rule's answer, a refusal of its own as it stands in E
  unfoldable pub Told : {A : Type 0} → Result A Refusal → Result A E → Type 0
  Told (Ok a) x = x ≡ Ok a
  Told (Err r) x = IsErrAnd x (by r)

  -- "size in slot, 1 to 1,024"; "bad size"
  unfoldable pub Sized : Result ℤ E → Result ℕ E → Type 0
  Sized (Ok z) x = Told (size_of (Ok z)) x
  Sized (Err e) x = x ≡ Err e

  -- "slot s any number, slot t the kind that s has": slot s is judged before slot t is read
  unfoldable pub Judged : Operation → Result Value E → Result Value E → Result Value E → Type 0
  Judged o (Ok a) (Ok b) x = Told (with_first o (Ok a) (Ok b)) x
  Judged o (Ok a) (Err e) x = MatchBool (takes_first o a) (x ≡ Err e) (Told (Err WrongKind) x)
  Judged o (Err e) t x = x ≡ Err e
