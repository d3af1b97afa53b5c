-- What crosses the border to C: a load's and a report's answer as numbers. Assumes nothing.
use Rattle.std.specs.Prelude.{ℕ, Option, Some, None}
use Rattle.value.specs.Coding.{tag_of, word_of}
use Rattle.value.specs.declared.Value.{Value}
use Rattle.rules.specs.Claim.{status_number}
use Rattle.calls.specs.Calls.{Shown}
use Rattle.portal.specs.declared.Told.{Told}

-- the tag of a result's value: 1 integer, 2 float, 3 boolean, 4 nil, 5 location; 0 is none, which differs from nil
unfoldable pub kind_of : Option Value → ℕ
kind_of None = 0
kind_of (Some v) = tag_of v

-- its word: two's complement, the float's bits, 0 or 1, the location; 0 for none and nil
unfoldable pub bits_of : Option Value → ℕ
bits_of None = 0
bits_of (Some v) = word_of v

unfoldable pub told_as : Shown → Told
told_as s =
    record {
      number = s.answer;
      status = status_number s.report.status;
      refusal = s.report.refusal;
      position = s.report.position;
      used = s.report.used;
      live = s.report.live;
      steps = s.report.steps;
      kind = kind_of s.report.result;
      word = bits_of s.report.result;
    }
