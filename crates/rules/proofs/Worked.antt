-- Every worked sheet agrees with the rules, by computation. Assumes nothing.
use mathlib.Core.Path.{◌≡◌, refl}
use mathlib.Core.List.{List, map}
use lib.Ieee as Ieee
use Rattle.laws.specs.Lists as Lists
use Rattle.value.specs.Range as Range
use Rattle.value.specs.Wanted as Wanted
use Rattle.numbers.specs.Integers as Integers
use Rattle.numbers.specs.Floats as Floats
use Rattle.numbers.specs.Operations as Operations
use Rattle.image.specs.Records as Records
use Rattle.image.proofs.Worked as Image
use Rattle.image.specs.Reading as Reading
use Rattle.rules.specs.Tests as Tests
use Rattle.rules.specs.Decide as Decide
use Rattle.rules.specs.Claim as Claim
use Rattle.rules.specs.Turn as Turn
use Rattle.rules.specs.Calls as Calls
use Rattle.rules.specs.Sheets.{Sheet, seen, worked}
use Rattle.rules.specs.Turn.{turn}
use Rattle.rules.specs.Further.{refusals, own, lates}

-- `unfolding compute` opens every definition that a sheet needs
unfoldable pub compute : Unit {0}
unfolding Image.compute Range.in_range Range.well_formed Wanted.as_integer Wanted.as_float Wanted.as_boolean Wanted.as_location Integers.exactly Integers.quotient Integers.eq_z Integers.moved Floats.finitely Floats.quotient Operations.whole Operations.real Operations.on_integers Operations.on_floats Operations.takes_booleans Operations.on_booleans Operations.takes_first Operations.with_integer Operations.with_float Operations.with_boolean Operations.operated Records.fetched_by Records.fetched_at Records.inputs_from Records.inputs Reading.number_of Reading.place_of Tests.value_in Tests.location_of Tests.integer_of Tests.truth_of Tests.size_of Tests.of_kind Tests.cell_in Decide.if_full Decide.if_empty Decide.with_second Decide.with_first Decide.gives Decide.fetches Decide.stores Decide.makes Decide.allocates Decide.decide Claim.found Claim.look Claim.put Claim.ready_in Claim.waits_on Claim.is_ready Claim.is_on Claim.keep Claim.ready_count Claim.seek Claim.without Claim.wake Claim.room Claim.perform Claim.status_of Claim.status_number Turn.code_of Turn.decided Turn.effect_at Turn.answer_of Turn.is_running Turn.ran Turn.turn Calls.root_frame Calls.loaded Calls.load_by Calls.load Calls.clear Calls.result_of Calls.report Calls.blank Calls.hear Calls.absent Calls.tell Calls.after Calls.replies Calls.entries Calls.opened Calls.fair_share Lists.all Calls.total Calls.may_open Calls.opening Calls.open_number seen Ieee.add Ieee.sub Ieee.mul Ieee.div Ieee.lt Ieee.eq
compute = tt

abbrev pub Agree : List Sheet → Type 0
Agree ss = map (λ s. map (seen s) s.facts) ss ≡ map (λ s. s.facts) ss

pub worked-agree : Agree worked
unfolding compute worked
worked-agree = refl

pub refusals-agree : Agree refusals
unfolding compute refusals
refusals-agree = refl

pub own-agree : Agree own
unfolding compute own
own-agree = refl

pub lates-agree : map (λ l. (turn l.claim l.pick).answer) lates ≡ map (λ l. l.answer) lates
unfolding compute lates
lates-agree = refl
