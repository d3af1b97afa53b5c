-- A thread's record tested: its head and word are a sound thread's exactly if the code says so. Assumes nothing.
use Prim.Native.Nat.{ℕ, ◌-◌, ◌/◌, ◌%◌, ◌^◌, ◌<◌}
use native.Mathlib.Omega.{arith}
use native.Mathlib.Nat.{div-div-eq-div-mul}
use mathlib.Core.Path.{◌≡◌, refl, sym}
use mathlib.Core.Bool.{Bool, true, false, ◌&&◌, and_comm}
use lib.Dec.{eqb, leb}
use borrow.Author.Tests.{eqb-true, eqb-false, eq-eqb, ne_eqb, le-leb, lt-ltb}
use Rattle.std.specs.Prelude.{if◌then◌else◌, Option, Some, None}
use Rattle.std.specs.Option.{is_some, unwrap_or}
use Rattle.laws.proofs.Absurd.{clash}
use Rattle.value.specs.declared.Value.{Value}
use Rattle.value.specs.declared.Value.TheVariants.{Nil}
use Rattle.value.specs.Coding.{tag_of, word_of, decoded, only}
use Rattle.value.specs.Range.{well_formed}
use Rattle.value.proofs.RoundTrip.{Stands, encode-decode}
use Rattle.image.specs.Reading.{start}
use Rattle.rules.specs.Claim.{ready, on}
use Rattle.threads.specs.Heads.{packed, head_of, wait_place, thread_in}
use Rattle.laying.specs.Laid.{place_number, head_number, acc_number}
use Rattle.laying.specs.Back.{place_read, live_read}
use Rattle.laying.proofs.Heads.{place-small}
use Rattle.inspection.specs.Seats.{Ground}
use Rattle.inspection.specs.Tests.{stands, place_on, place_stands, live_on, record_stands}

-- a place's number, read and written again
place-again : (p : ℕ) → p < 65536 → (p ≡ 0 → ⊥) → place_number (place_read p) ≡ p
unfolding place_number place_read wait_place
place-again p h n = by (eqb p 1) refl
  where
    by : (b : Bool) → eqb p 1 ≡ b → place_number (if b then ready else on (p - 2)) ≡ p
    by true e = unfold place_number in sym (eqb-true p 1 e)
    by false e = unfold place_number wait_place in let m = eqb-false p 1 e in rw (lt-ltb (p - 2) 65534 (omega arith)) (omega arith)

-- the four fields of a head, put together again
fields-again : (head a b d : ℕ) → head / 65536 ≡ a → a / 65536 ≡ b → b / 65536 ≡ d → d < 65536 → packed (head % 65536) (a % 65536) (b % 65536) (d % 65536) ≡ head
unfolding packed
fields-again head a b d p q r h = omega arith

abbrev fields : ℕ → ℕ → ℕ
fields place head = packed place (head / 65536 % 65536) (head / 4294967296 % 65536) (head / 281474976710656 % 65536)

module _ (head : ℕ) where
  head-again : head < 2 ^ 64 → fields (head % 65536) head ≡ head
  head-again h = fields-again head (head / 65536) (head / 4294967296) (head / 281474976710656) refl (div-div-eq-div-mul head 65536 65536) (div-div-eq-div-mul head 4294967296 65536) (omega arith)

  -- another place, or another tag, is another head
  other_place : (p : ℕ) → p < 65536 → (p ≡ head % 65536 → ⊥) → (a b t : ℕ) → packed p a b t ≡ head → ⊥
  unfolding packed
  other_place p h n a b t e = n (omega arith)

  tag-of-head : (p a b t : ℕ) → p < 65536 → a < 65536 → b < 65536 → t < 65536 → packed p a b t ≡ head → t ≡ head / 281474976710656 % 65536
  unfolding packed
  tag-of-head p a b t hp ha hb ht e = omega arith

-- the place 0 is read as a wait on location 0, whose number is 2
nowhere : (p : ℕ) → p ≡ 0 → place_number (place_read p) ≡ p → ⊥
unfolding place_number place_read wait_place
nowhere p z e = let q : ◌≡◌ {A = ℕ} 2 0 = (rw z at e) in omega arith

nil-good : (t w : ℕ) → t ≡ 4 → w ≡ 0 → decoded t w ≡ Some Nil
unfolding decoded only
nil-good t w p q = rw (p, q)

module _ (g : Ground) (head word : ℕ) (h : head < 2 ^ 64) (l : word < 2 ^ 64) where
  abbrev place : ℕ
  place = head % 65536

  abbrev tag : ℕ
  tag = head / 281474976710656 % 65536

  abbrev position : ℕ
  position = head / 65536 % 65536

  abbrev frame : ℕ
  frame = head / 4294967296 % 65536

  abbrev rest : Bool
  rest = start g.image g.code position && place_on g (place_read place)

  abbrev written : Value → ℕ
  written v = packed (place_number (place_read place)) position frame (tag_of v)

  -- the test of a record whose accumulator is v
  abbrev judged : Value → Bool
  judged v = eqb (written v) head && (eqb (word_of v) word && (leb frame 65535 && (well_formed v && rest)))

  good : (v : Value) → Stands tag word v → (b : Bool) → eqb place 0 ≡ b
      → judged v ≡ ((if b then false else place_on g (place_read place)) && start g.image g.code position)
  good v s true e =
      let z = eqb-true place 0 e in
      rw (ne_eqb (written v) head (other_place head _ (place-small (place_read place)) (λ w. nowhere place z w) _ _ _))
  good v s false e =
      let n = eqb-false place 0 e in
      rw (s.tag, place-again place (omega arith) n, eq-eqb _ head (head-again head h), eq-eqb _ _ s.word, le-leb frame 65535 (omega arith), s.good)
      (and_comm (start g.image g.code position) (place_on g (place_read place)))

  bad : decoded tag word ≡ None → (b d : Bool) → eqb (written Nil) head ≡ b → eqb 0 word ≡ d → (b && (d && (leb frame 65535 && rest))) ≡ false
  unfolding tag_of
  bad e true true p q =
      let t = tag-of-head head _ _ _ 4 (place-small (place_read place)) (omega arith) (omega arith) (omega arith) (eqb-true _ head p) in
      clash (cc (nil-good tag word (sym t) (sym (eqb-true 0 word q))))
  bad e true false p q = refl
  bad e false d p q = refl

  by_value : (d : Option Value) → decoded tag word ≡ d
      → judged (unwrap_or d Nil) ≡ (is_some d && (place_stands g place && start g.image g.code position))
  unfolding place_stands word_of well_formed
  by_value (Some v) e = good v (encode-decode tag word v l e) (eqb place 0) refl
  by_value None e = bad e (eqb (written Nil) head) (eqb 0 word) refl refl

  -- a record stands exactly if its accumulator is well formed, its place sound and its position a start
  pub record_is : record_stands g head word ≡ (is_some (decoded tag word) && (place_stands g place && start g.image g.code position))
  unfolding record_stands stands head_number head_of acc_number live_read thread_in live_on
  record_is = by_value (decoded tag word) refl
