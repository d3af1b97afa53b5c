-- Whatever a slot, a location and the arithmetic pass on is well formed. Assumes nothing.
use Prim.Native.Nat.{ℕ}
use mathlib.Core.Path.{◌≡◌, subst}
use mathlib.Core.Bool.{true}
use lib.Dec.{leb}
use Rattle.std.specs.Prelude.{Result, Ok, Err}
use Rattle.laws.proofs.Absurd.{clash}
use Rattle.laws.proofs.Choice.{chosen}
use Rattle.value.specs.declared.Value.{Value}
use Rattle.value.specs.declared.Value.TheVariants.{Integer, Float, Boolean, Nil, Location}
use Rattle.value.specs.declared.refusals.Refusal.{Refusal}
use Rattle.value.specs.Range.{well_formed}
use Rattle.value.specs.Wanted.{as_location}
use Rattle.numbers.specs.declared.Operation.{Operation}
use Rattle.numbers.specs.Operations.{takes_first}
use Rattle.numbers.proofs.WellFormed.{operated-well-formed}
use Rattle.rules.specs.declared.Kind.TheVariants.{Icell, Mcell}
use Rattle.rules.specs.declared.Slot.{Slot}
use Rattle.rules.specs.declared.Slot.TheVariants.{Missing, Empty, Full}
use Rattle.rules.specs.Tests.{value_in, location_of}
use Rattle.rules.specs.Decide.{with_first, with_second}

-- a value; a location
abbrev pub Formed : Value → Type 0
Formed v = well_formed v ≡ true

abbrev pub Near : ℕ → Type 0
Near l = leb l 65535 ≡ true

-- a test passes on only what P holds of
abbrev pub Yields : {A : Type 0} → (A → Type 0) → Result A Refusal → Type 0
Yields {A} P t = (a : A) → t ≡ Ok a → P a

-- what is seen of a cell: if it is full, a well-formed value
abbrev pub Seen : Slot → Type 0
Seen Missing = Unit {0}
Seen (Empty k) = Unit {0}
Seen (Full k v) = Formed v

pub value_in_lem : (x : Slot) → Seen x → Yields Formed (value_in x)
unfolding value_in
value_in_lem Missing h v e = clash (cc)
value_in_lem (Empty Icell) h v e = clash (cc)
value_in_lem (Empty Mcell) h v e = clash (cc)
value_in_lem (Full Icell w) h v e = subst Formed (cc) h
value_in_lem (Full Mcell w) h v e = clash (cc)

pub location-of : (r : Result Value Refusal) → Yields Formed r → Yields Near (location_of r)
unfolding location_of as_location
location-of (Ok (Integer z)) h l e = clash (cc)
location-of (Ok (Float x)) h l e = clash (cc)
location-of (Ok (Boolean b)) h l e = clash (cc)
location-of (Ok Nil) h l e = clash (cc)
location-of (Ok (Location m)) h l e = unfold well_formed in h (Location l) (cc)
location-of (Err n) h l e = clash (cc)

with_second_lem : (o : Operation) (a : Value) (t : Result Value Refusal) → Yields Formed (with_second o a t)
unfolding with_second
with_second_lem o a (Ok b) v e = operated-well-formed o a b v e
with_second_lem o a (Err n) v e = clash (cc)

pub with_first_lem : (o : Operation) (r t : Result Value Refusal) → Yields Formed (with_first o r t)
unfolding with_first
with_first_lem o (Ok a) t v e = chosen (takes_first o a) _ _ e (λ _ q. with_second_lem o a t v q) (λ _ q. clash (cc))
with_first_lem o (Err n) t v e = clash (cc)
