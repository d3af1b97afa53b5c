-- Document 01, "Images": which images are good, and the place of a bad one. Assumes nothing.
-- Each walk has fuel for one step more than the image has bytes, and each step passes a byte at least: it never runs out (proofs/Fuel.antt).
use Rattle.std.specs.Prelude.{ℕ, zero, suc, ◌+◌, Bool, true, false, ◌&&◌, List, [], ◌∷◌, length, leb, ltb, eqb}
use Rattle.std.specs.Prelude.{if◌then◌else◌, Option, Some, None, Result, Ok, Err}
use Rattle.kinds.specs.declared.Record.{Record}
use Rattle.kinds.specs.declared.Record.TheVariants as R
use Rattle.kinds.specs.declared.Flow.{Flow}
use Rattle.kinds.specs.Flows.{flow_of, closes, targets}
use Rattle.image.specs.declared.records.Stop.{Stop}
use Rattle.image.specs.declared.records.Stop.TheVariants.{Ended, Bad}
use Rattle.image.specs.declared.reader.Layout.{Layout}
use Rattle.image.specs.declared.reader.Fault.{Fault}
use Rattle.image.specs.declared.reader.Fault.TheVariants.{TooLong, BadAt}
use Rattle.image.specs.Records.{step_at, head_at}

-- what is said of an image: how a good one is laid out, or what is at fault
abbrev pub Verdict : Type 0
Verdict = Result Layout Fault

-- good, with these slots, so many inputs, and the start of its code
abbrev pub good : ℕ → ℕ → ℕ → Verdict
good r n code = Ok (record { slots = r; inputs = n; code = code })

-- ---- the code

-- "the last instruction's offset if it is of the wrong kind": what is at fault if the code ends behind this one
unfoldable pub ending : Flow → ℕ → Option ℕ
ending f at = if closes f then None else Some at

-- "offset of the first record that is unknown, cut short or breaks a rule"; `end` is what is at fault if the code ends here
unfoldable pub walk : ℕ → List ℕ → Option ℕ → ℕ → Option ℕ
walk zero l end at = Some at
walk (suc k) l end at =
    elim (step_at l at) [ Err Ended ↦ end | Err Bad ↦ Some at | Ok (i, m) ↦ walk k l (ending (flow_of i) at) m ]

-- whether an instruction starts at the place p, of those from `at` on
unfoldable pub start_from : ℕ → List ℕ → ℕ → ℕ → Bool
start_from zero l at p = false
start_from (suc k) l at p =
    elim (step_at l at) [ Err e ↦ false | Ok (i, m) ↦ if eqb at p then true else start_from k l m p ]

-- whether an instruction starts at this position of the code
unfoldable pub start : List ℕ → ℕ → ℕ → Bool
start l code p = start_from (suc (length l)) l code (code + p)

-- "every a and b is the start of an instruction"
unfoldable pub all_start : List ℕ → ℕ → List ℕ → Bool
all_start l code [] = true
all_start l code (p ∷ ps) = start l code p && all_start l code ps

-- "the first instruction with a bad target"
unfoldable pub astray : ℕ → List ℕ → ℕ → ℕ → Option ℕ
astray zero l code at = Some at
astray (suc k) l code at =
    elim (step_at l at) [
      | Err e ↦ None
      | Ok (i, m) ↦ if all_start l code (targets (flow_of i)) then astray k l code m else Some at
    ]

unfoldable pub or_else : Option ℕ → Option ℕ → Option ℕ
or_else (Some p) later = Some p
or_else None later = later

unfoldable pub judged : Option ℕ → Verdict → Verdict
judged (Some p) v = Err (BadAt p)
judged None v = v

-- "the image's length where it ends .. with no code; else the last instruction's offset if it is of the wrong kind; else the first instruction with a bad target"
unfoldable pub read_code : List ℕ → ℕ → ℕ → ℕ → Verdict
read_code l r n code =
    judged (or_else (walk (suc (length l)) l (Some (length l)) code) (astray (suc (length l)) l code code)) (good r n code)

-- ---- the records before it

-- "Then inputs for slots 1, 2, .., at most r-1 of them": n so far. "Then 85 (no body). All after it is code"
unfoldable pub read_inputs : ℕ → List ℕ → ℕ → ℕ → ℕ → Verdict
read_inputs zero l r n at = Err (BadAt at)
read_inputs (suc k) l r n at =
    elim (head_at l at) [
      | Err Ended ↦ Err (BadAt (length l))
      | Err Bad ↦ Err (BadAt at)
      | Ok (R.Slots s, m) ↦ Err (BadAt at)
      | Ok (R.Input v, m) ↦ if ltb (n + 1) r then read_inputs k l r (n + 1) m else Err (BadAt at)
      | Ok (R.Code, m) ↦ read_code l r n m
    ]

-- "First 80 (one byte r, 1 to 255: slots of the root frame)."
unfoldable pub read_first : List ℕ → Result (Record × ℕ) Stop → Verdict
read_first l (Err e) = Err (BadAt 0)
read_first l (Ok (R.Slots r, m)) = read_inputs (suc (length l)) l r 0 m
read_first l (Ok (R.Input v, m)) = Err (BadAt 0)
read_first l (Ok (R.Code, m)) = Err (BadAt 0)

-- "An image is at most 4,096 bytes."
unfoldable pub read_image : List ℕ → Verdict
read_image l = if leb (length l) 4096 then read_first l (head_at l 0) else Err TooLong

-- "image over 4,096 bytes; bad image, with place": the number and the place of document 01; 0 and 0 where the image is good
unfoldable pub number_of : Verdict → ℕ
number_of (Err TooLong) = 22
number_of (Err (BadAt p)) = 23
number_of (Ok g) = 0

unfoldable pub place_of : Verdict → ℕ
place_of (Err TooLong) = 0
place_of (Err (BadAt p)) = p
place_of (Ok g) = 0
