-- An accepted image keeps what the reader promises. Assumes nothing.
use Prim.Native.Nat.{ℕ, zero, suc, ◌+◌, ◌-◌, ◌<◌, ◌≤◌}
use native.Mathlib.Omega.{arith}
use native.Mathlib.Nat.{add-zero}
use mathlib.Core.Path.{◌≡◌, refl, sym, ap, subst, ◌∙◌}
use mathlib.Core.Bool.{true, false}
use mathlib.Core.List.{List}
use lib.ListN.{length, get_or, take, drop, length-take, get_or-eq_default}
use lib.Seq.{get_or-take, get_or-drop}
use lib.Dec.{leb, ltb}
use borrow.Author.Tests.{leb-true, ltb-true, ltb-false}
use Rattle.laws.proofs.Choice.{chosen, tested, both}
use Rattle.laws.proofs.Absurd.{clash}
use Rattle.kinds.specs.declared.Instruction.{Instruction}
use Rattle.kinds.specs.Bytes.{Bytes}
use Rattle.kinds.specs.Flows.{flow_of, closes}
use Rattle.kinds.specs.Table.{Kind}
use Rattle.kinds.proofs.Operands.{instruction-sane, input-good, slots-range, slots-most, slots-size}
use Rattle.image.specs.Records.{body_at, step_at, fetched_by, fetched_at, head_at, inputs_from, inputs}
use Rattle.image.specs.Reading.{ending, walk, start, astray, start_from, or_else, judged, read_code, read_inputs, read_first, read_image, good}
use Rattle.image.specs.Promise.{Whole, Promise, all_good}
use Rattle.image.proofs.Places.{Stands, stands-there}
use Rattle.image.proofs.Steps.{by-step, by-head, goes-on, inputs-stop, inputs-slots, inputs-code, inputs-full, inputs-next, values-next}
use Rattle.image.proofs.Ways.{Reached, here, found, stands, starts, follows, walked, aimed}
use Rattle.std.specs.Prelude.{Option, Some, None, Ok}
use Rattle.kinds.specs.declared.Record.TheVariants as R
use Rattle.image.specs.declared.reader.Layout.{Layout}

-- ---- bytes of a body

body_bytes : {A : Type 0} {kinds : ℕ → Kind A} {l : List ℕ} {at : ℕ} {a : A} {m : ℕ} → Bytes l → Stands kinds l at a m → Bytes (body_at (kinds (get_or l at 0)) l at)
body_bytes {kinds = kinds} {l = l} {at = at} b s = within (kinds (get_or l at 0)).size (at + 1)
  where
    within : (n m : ℕ) → Bytes (take n (drop m l))
    within n m i =
        tested (ltb i n)
        (λ h. let g = ltb-true i n h in rw (get_or-take n (drop m l) i 0 g, get_or-drop m l i 0) (b (m + i)))
        (λ h. let g = ltb-false i n h in let s : length (take n (drop m l)) ≤ i = omega (arith, length-take n (drop m l)) in rw (get_or-eq_default (take n (drop m l)) 0 s) (omega arith))

module _ (l : List ℕ) (bytes : Bytes l) where
  -- ---- the code

  record Checked (code : ℕ) : Type 0 where
    faultless : walk (suc (length l)) l (Some (length l)) code ≡ None
    on-target : astray (suc (length l)) l code code ≡ None

  module _ {code : ℕ} (c : Checked code) where
    enters : (i : Instruction) × ((m : ℕ) × (step_at l code ≡ Ok (i, m)))
    enters =
        by-step l code
        (goes-on l code _ _ c.faultless)
        (λ i m e. (i, (m, e)))

    -- an instruction that does not close the code is not the last
    more : {p n : ℕ} {i : Instruction} → Reached l p i n code → closes (flow_of i) ≡ false → start_from (suc (length l)) l code n ≡ true
    unfolding ending
    more {p} {n} {i} w h =
        let q : walk (suc (length l)) l (Some p) n ≡ None = rw h at (walked (Some (length l)) w c.faultless) in
        by-step l n
        (goes-on l n _ _ q)
        (λ j m e. starts (follows w e))

    whole : (p : ℕ) → start l code p ≡ true → Whole l code p
    unfolding start fetched_at fetched_by
    whole p q =
        let f = found l (code + p) (suc (length l)) code q in
        let w = f.reached in
        let s = stands-there (stands w) in
        let g = s.passed in
        let back : f.after ≡ code + (f.after - code) = omega arith in
        record {
          instruction = f.instruction;
          after = f.after - code;
          fetched = rw (stands w);
          forward = omega arith;
          within = omega arith;
          operands = instruction-sane _ _ _ (body_bytes bytes s) s.means;
          aims = aimed code w c.on-target;
          goes_on = λ h. subst (λ (x : ℕ). start_from (suc (length l)) l code x ≡ true) back (more w h);
        }

  -- ---- the records before it

  -- what an acceptance from `at` on says, where n inputs came before
  record Accepted (n at r n' code : ℕ) : Type 0 where
    checked : Checked code
    count : ℕ
    sum : n + count ≡ n'
    room : n' < r
    long : length (inputs_from count l at) ≡ count
    good : all_good (inputs_from count l at) ≡ true

  unblamed : (w a : Option ℕ) {r n code r' n' code' : ℕ} → judged (or_else w a) (good r n code) ≡ good r' n' code' → ((w ≡ None) × (a ≡ None)) × (good r n code ≡ good r' n' code')
  unfolding judged or_else
  unblamed (Some p) a e = clash (cc)
  unblamed None (Some p) e = clash (cc)
  unblamed None None e = ((refl, refl), e)

  accepted : (k r n at r' n' code : ℕ) → n < r → read_inputs k l r n at ≡ good r' n' code → (r ≡ r') × Accepted n at r n' code
  unfolding read_inputs inputs_from all_good read_code
  accepted zero r n at r' n' code h q = clash (cc)
  accepted (suc k) r n at r' n' code h q =
      by-head l at
      (λ x e. clash (cc (inputs-stop l at r n x e k)))
      (λ s m e. clash (cc (inputs-slots l at r n e k)))
      (λ v m e. tested (ltb (n + 1) r)
      (λ g.
      let i = accepted k r (n + 1) m r' n' code (ltb-true (n + 1) r g) (sym (inputs-next l at r n e g k) ∙ q) in
      let s = stands-there e in
      (i.0, record { checked = i.1.checked; count = suc i.1.count; sum = omega arith; room = i.1.room; long = rw (values-next l at e i.1.count) (ap suc i.1.long); good = rw (values-next l at e i.1.count) (both (input-good _ _ v (body_bytes bytes s) s.means) i.1.good) }))
      (λ g. clash (cc (inputs-full l at r n e g k))))
      (λ m e.
      let u = unblamed _ _ (sym (inputs-code l at r n e k) ∙ q) in
      let g : ◌≡◌ {A = Layout} (record { slots = r; inputs = n; code = m }) (record { slots = r'; inputs = n'; code = code }) = cc in
      let a : r ≡ r' = ap (λ (x : Layout). x.slots) g in
      let b : n ≡ n' = ap (λ (x : Layout). x.inputs) g in
      let d : m ≡ code = ap (λ (x : Layout). x.code) g in
      (a, record { checked = subst Checked d (record { faultless = u.0.0; on-target = u.0.1 }); count = 0; sum = omega arith; room = omega arith; long = refl; good = refl }))

  -- ---- the whole image

  module _ (r n code : ℕ) where
    kept : (s m : ℕ) → length l ≤ 4096 → head_at l 0 ≡ Ok (R.Slots s, m) → read_inputs (suc (length l)) l s 0 m ≡ good r n code → Promise l r n code
    unfolding inputs start
    kept s m h e q =
        let w = stands-there e in
        let g = slots-range _ _ s w.means in
        let two : m ≡ 2 = omega (arith, w.ends, slots-size _ _ s w.means) in
        let a = accepted (suc (length l)) s 0 m r n code (omega arith) q in
        let all : a.1.count ≡ n = omega (arith, a.1.sum) in
        let f = enters a.1.checked in
        record {
          short = h;
          slots-from = omega (arith, a.0);
          slots-to = omega (arith, a.0, slots-most _ _ s w.means (body_bytes bytes w));
          room = omega (arith, a.0, a.1.room);
          input-count = rw (← all, ← two) a.1.long;
          input-values = rw (← all, ← two) a.1.good;
          inside = omega (arith, (stands-there f.1.1).passed);
          first = rw add-zero (starts (here f.1.1));
          whole = whole a.1.checked;
        }

    pub promised : read_image l ≡ good r n code → Promise l r n code
    unfolding read_image read_first
    promised q =
        chosen (leb (length l) 4096) _ _ q
        (λ h q. by-head l 0
        (λ x e. clash (cc (ap (read_first l) e)))
        (λ s m e. kept s m (leb-true (length l) 4096 h) e (sym (ap (read_first l) e) ∙ q))
        (λ v m e. clash (cc (ap (read_first l) e)))
        (λ m e. clash (cc (ap (read_first l) e))))
        (λ h q. clash (cc))
