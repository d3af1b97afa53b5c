-- A machine is sound once it was opened, and stays so whatever it is told. Assumes nothing.
use Prim.Native.Nat.{ℕ, zero, suc, ◌+◌, ◌≤◌}
use native.Mathlib.Omega.{arith}
use mathlib.Core.Path.{◌≡◌, refl, ap, ◌∙◌}
use mathlib.Core.Bool.{Bool, true, false, ◌&&◌}
use mathlib.Core.List.{List, [], ◌∷◌}
use lib.ListN.{length, set}
use lib.Dec.{leb, ltb, eqb}
use borrow.Author.Tests.{leb-true, ltb-true, eqb-true, eq-eqb}
use Rattle.std.specs.Prelude.{if◌then◌else◌}
use Rattle.laws.specs.Lists.{all, is_none}
use Rattle.laws.proofs.Absurd.{clash}
use Rattle.laws.proofs.Choice.{both, parted, either_way}
use Rattle.laws.proofs.Every.{All, all_nil, all_cons, tested, passes, all-get, all_set}
use Rattle.rules.specs.Claim.{Seat, Claim}
use Rattle.rules.specs.Calls.{Event, picks, loads, asks, clears, hear, Machine, claim_at, Message, Told, tell, after, Share, opened, fair_share, total, may_open, opening}
use Rattle.rules.specs.Sound.{seat_sound, regions, shares_of, sound}
use Rattle.rules.specs.History.{Happening, opens, says, machine_after, shares_after}
use Rattle.soundness.specs.Events.{ByteEvent, ByteHappening}
use Rattle.rules.proofs.Telling.{hear-seat}
use Rattle.soundness.proofs.Claims.{Roomy}
use Rattle.soundness.proofs.Turns.{turn-kept}
use Rattle.soundness.proofs.Loads.{bare-sound, load_kept, clear_kept}

-- ---- seats

pub shares-kept : (m : Machine) (k : ℕ) (d : Claim) → d.seat ≡ (claim_at m k).seat → shares_of (set m k d) ≡ shares_of m
unfolding shares_of
shares-kept [] k d e = refl
shares-kept (c ∷ m) zero d e = ap (λ (s : Seat). record { cells = s.cells; threads = s.threads } ∷ shares_of m) e
shares-kept (c ∷ m) (suc k) d e = ap (λ (ss : List Share). record { cells = c.seat.cells; threads = c.seat.threads } ∷ ss) (shares-kept m k d e)

pub regions-kept : (l : ℕ) (m : Machine) (k : ℕ) (d : Claim) → d.seat ≡ (claim_at m k).seat → regions l (set m k d) ≡ regions l m
unfolding regions
regions-kept l [] k d e = refl
regions-kept l (c ∷ m) zero d e = ap (λ (s : Seat). eqb s.start l && regions (l + s.cells) m) e
regions-kept l (c ∷ m) (suc k) d e = ap (λ (t : Bool). eqb c.seat.start l && t) (regions-kept (l + c.seat.cells) m k d e)

-- the seats of a sound machine have room, each in a region of its own
rooms : (l : ℕ) (m : Machine) → regions l m ≡ true → all fair_share (shares_of m) ≡ true → l + total (shares_of m) ≤ 65535 → All (λ c. Roomy c.seat) m
unfolding regions shares_of all total fair_share
rooms l [] r f h = all_nil
rooms l (c ∷ m) r f h =
    parted (eqb c.seat.start l) _ r λ at r.
    parted (fair_share (record { cells = c.seat.cells; threads = c.seat.threads })) _ f λ fair f.
    parted (leb 1 c.seat.cells) _ fair λ _ fair.
    parted (leb c.seat.cells 1024) _ fair λ _ fair.
    parted (leb 1 c.seat.threads) _ fair λ some _.
    let e = eqb-true c.seat.start l at in
    all_cons (record { region = omega arith; threads = leb-true 1 c.seat.threads some }) (rooms (l + c.seat.cells) m r f (omega arith))

pub roomy : (m : Machine) → may_open (shares_of m) ≡ true → regions 0 m ≡ true → All (λ c. Roomy c.seat) m
unfolding may_open
roomy m o r =
    parted (leb 1 (length (shares_of m))) _ o λ _ o.
    parted (leb (length (shares_of m)) 8) _ o λ _ o.
    parted (all fair_share (shares_of m)) _ o λ fair most.
    let h = leb-true (total (shares_of m)) 2048 most in rooms 0 m r fair (omega arith)

-- ---- opening

opened_shares : (l : ℕ) (ss : List Share) → shares_of (opened l ss) ≡ ss
unfolding shares_of opened
opened_shares l [] = refl
opened_shares l (s ∷ ss) = ap (λ (r : List Share). s ∷ r) (opened_shares (l + s.cells) ss)

opened-regions : (l : ℕ) (ss : List Share) → regions l (opened l ss) ≡ true
unfolding regions opened
opened-regions l [] = refl
opened-regions l (s ∷ ss) = both (eq-eqb l l refl) (opened-regions (l + s.cells) ss)

opened-seats : (l : ℕ) (ss : List Share) → all seat_sound (opened l ss) ≡ true
unfolding all opened
opened-seats l [] = refl
opened-seats l (s ∷ ss) = both (bare-sound (record { cells = s.cells; threads = s.threads; start = l })) (opened-seats (l + s.cells) ss)

pub sound-opened : (ss : List Share) → may_open ss ≡ true → sound (opened 0 ss) ≡ true
unfolding sound
sound-opened ss h = both (ap may_open (opened_shares 0 ss) ∙ h) (both (opened-regions 0 ss) (opened-seats 0 ss))

-- ---- what a machine is told

heard-sound : (c : Claim) (e : Event) → Roomy c.seat → seat_sound c ≡ true → ByteEvent e → seat_sound (hear c e).claim ≡ true
unfolding hear
heard-sound c (picks p) r s b = turn-kept c r s p
heard-sound c (loads image) r s b = load_kept image b c r s
heard-sound c asks r s b = s
heard-sound c clears r s b = clear_kept c s

-- what becomes of a sound seat
pub record Kept (c d : Claim) : Type 0 where
  pub seat : d.seat ≡ c.seat
  pub sound : seat_sound d ≡ true

pub heard-kept : (c : Claim) (e : Event) → Roomy c.seat → seat_sound c ≡ true → ByteEvent e → Kept c (hear c e).claim
heard-kept c e r s b = record { seat = hear-seat c e; sound = heard-sound c e r s b }

pub sound-kept : (m : Machine) (e : Message) → sound m ≡ true → ByteEvent e.says → sound (tell m e).machine ≡ true
unfolding tell sound
sound-kept m e s b =
    parted (may_open (shares_of m)) _ s λ o t.
    parted (regions 0 m) _ t λ r a.
    either_way (λ (x : Told). sound x.machine ≡ true) (ltb e.to (length m))
    (λ h.
    let i = ltb-true e.to (length m) h in
    let seats = tested seat_sound m a in
    let k = heard-kept (claim_at m e.to) e.says (all-get e.to _ (roomy m o r) i) (all-get e.to _ seats i) b in
    both (ap may_open (shares-kept m e.to _ k.seat) ∙ o) (both (regions-kept 0 m e.to _ k.seat ∙ r) (passes seat_sound (all_set e.to _ seats k.sound))))
    (λ h. s)

pub sound-run : (m : Machine) (es : List Message) → sound m ≡ true → All (λ e. ByteEvent e.says) es → sound (after m es) ≡ true
unfolding after
sound-run m [] s all_nil = s
sound-run m (e ∷ es) s (all_cons b bs) = sound-run (tell m e).machine es (sound-kept m e s b) bs

-- once an opening went through
pub sound-history : (h : List Happening) → is_none (shares_after h) ≡ false → All ByteHappening h → sound (machine_after h) ≡ true
unfolding shares_after machine_after opening
sound-history [] n all_nil = clash (cc)
sound-history (opens ss ∷ h) n (all_cons b bs) = by (may_open ss) refl n (λ n. sound-history h n bs)
  where
    by : (t : Bool) → may_open ss ≡ t → is_none (if t then ss else shares_after h) ≡ false → (is_none (shares_after h) ≡ false → sound (machine_after h) ≡ true)
        → sound (if t then opened 0 ss else machine_after h) ≡ true
    by true e n k = sound-opened ss e
    by false e n k = k n
sound-history (says e ∷ h) n (all_cons b bs) = sound-kept (machine_after h) e (sound-history h n bs) b
