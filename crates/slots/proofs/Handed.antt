-- What the two tests answer where a refusal stands for one value of the caller's type. Assumes nothing.
use mathlib.Core.Path.{◌≡◌, refl, ap, ◌∙◌}
use mathlib.Core.Bool.{Bool, true, false}
use lib.IntN.{ℤ}
use Prim.Native.Nat.{ℕ}
use Rattle.std.specs.Prelude.{Result, Ok, Err, MatchBool, if◌then◌else◌}
use Rattle.value.specs.declared.Value.{Value}
use Rattle.value.specs.declared.refusals.Refusal.{Refusal}
use Rattle.value.specs.declared.refusals.Refusal.TheVariants.{WrongKind}
use Rattle.numbers.specs.declared.Operation.{Operation}
use Rattle.numbers.specs.Operations.{takes_first}
use Rattle.rules.specs.Tests.{size_of}
use Rattle.rules.specs.Decide.{with_first, with_second}
use Rattle.slots.specs.Handed.{Told, Sized, Judged}

-- the rule's answer, told in the caller's type; what is lent is handed on
abbrev pub told_by : {A E : Type 0} → (Refusal → E) → Result A Refusal → Result A E
told_by f (Ok a) = Ok a
told_by f (Err r) = Err (f r)

abbrev pub size_by : {E : Type 0} → (Refusal → E) → Result ℤ E → Result ℕ E
size_by f (Ok z) = told_by f (size_of (Ok z))
size_by f (Err e) = Err e

abbrev pub first_by : {E : Type 0} → (Refusal → E) → Operation → Result Value E → Result Value E → Result Value E
first_by f o (Ok a) (Ok b) = told_by f (with_first o (Ok a) (Ok b))
first_by f o (Ok a) (Err e) = if takes_first o a then Err e else Err (f WrongKind)
first_by f o (Err e) t = Err e

module _ {E : Type 0} {by : Refusal → E → Type 0} (f : Refusal → E) (stands : (r : Refusal) (e : E) → by r e → e ≡ f r) where
  told_one : {A : Type 0} (a : Result A Refusal) (x : Result A E) → Told by a x → x ≡ told_by f a
  unfolding Told
  told_one (Ok a) x e = e
  told_one (Err r) (Ok a) e = absurd e
  told_one (Err r) (Err d) e = ap Err (stands r d e)

  pub sized_one : (s : Result ℤ E) (x : Result ℕ E) → Sized by s x → x ≡ size_by f s
  unfolding Sized
  sized_one (Ok z) x e = told_one (size_of (Ok z)) x e
  sized_one (Err d) x e = e

  pub judged_one : (o : Operation) (s t x : Result Value E) → Judged by o s t x → x ≡ first_by f o s t
  unfolding Judged
  judged_one o (Ok a) (Ok b) x h = told_one (with_first o (Ok a) (Ok b)) x h
  judged_one o (Ok a) (Err d) x h = chosen (takes_first o a) h
    where
      chosen : (c : Bool) → MatchBool c (x ≡ Err d) (Told by (Err WrongKind) x) → x ≡ (if c then Err d else Err (f WrongKind))
      chosen true e = e
      chosen false e = told_one (Err WrongKind) x e
  judged_one o (Err d) t x h = h

-- where a refusal stands for itself, the tests are the rules' own
module _ {by : Refusal → Refusal → Type 0} (itself : (r e : Refusal) → by r e → e ≡ r) where
  own : {A : Type 0} (a : Result A Refusal) → told_by (λ r. r) a ≡ a
  own (Ok a) = refl
  own (Err r) = refl

  pub sized_own : (s : Result ℤ Refusal) (x : Result ℕ Refusal) → Sized by s x → x ≡ size_of s
  unfolding size_of
  sized_own (Ok z) x h = sized_one (λ r. r) itself (Ok z) x h ∙ own (size_of (Ok z))
  sized_own (Err r) x h = sized_one (λ r. r) itself (Err r) x h

  pub judged_own : (o : Operation) (s t x : Result Value Refusal) → Judged by o s t x → x ≡ with_first o s t
  unfolding with_first with_second
  judged_own o (Ok a) (Ok b) x h = judged_one (λ r. r) itself o (Ok a) (Ok b) x h ∙ own (with_first o (Ok a) (Ok b))
  judged_own o (Ok a) (Err r) x h = judged_one (λ r. r) itself o (Ok a) (Err r) x h
  judged_own o (Err r) t x h = judged_one (λ r. r) itself o (Err r) t x h
