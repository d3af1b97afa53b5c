-- A sound machine laid in a long state is read back, and the state is then sound; a state is sound just if a sound machine lies in it and nothing else. Assumes nothing.
use Prim.Native.Nat.{ℕ, suc, ◌≤◌}
use native.Mathlib.Omega.{arith}
use mathlib.Core.Path.{◌≡◌, refl, sym, ap, ◌∙◌}
use mathlib.Core.Bool.{true, false}
use mathlib.Core.List.{List, [], ◌∷◌, ◌++◌}
use lib.Dec.{eqb}
use lib.ListN.{length, drop, take-append-drop}
use lib.Seq.{length-take-le, take_at, drop_at, get_or-take}
use borrow.Author.Tests.{ne_eqb}
use Rattle.std.proofs.lemmas.Bool.Decides.{nat_tests}
use Rattle.std.proofs.lemmas.Grind.{common_steps}
use Rattle.laws.proofs.Absurd.{clash}
use Rattle.rules.specs.Claim.{Claim}
use Rattle.rules.specs.Calls.{Machine, may_open}
use Rattle.rules.specs.Sound.{shares_of, sound}
use Rattle.laying.specs.Laid.{Parts, laid_book, laid_claim}
use Rattle.state.specs.State.{State, state, filled, laid, is_long, long, Long, share, within, machine_of, claims_from, state_sound, Enough, Stands}
use Rattle.state.proofs.Machines.{Seats, more, right-some, seats-of, sound-of}
use Rattle.state.proofs.Reading.{alike, laid_in, Lies, lies, stood, claims-taken}

pub long-enough : (s : State) → long s ≡ true → Enough s
unfolding long is_long
long-enough s e = grind (arith, nat_tests)

pub enough-long : (s : State) → Enough s → long s ≡ true
unfolding long is_long
enough-long s h = grind (arith, nat_tests)

-- ---- parts of all seats over the front of a state

abbrev over : Parts → State → State
over p s =
    state (p.book ++ drop 72 s.book) (p.tags ++ drop 2048 s.tags) (p.words ++ drop 2048 s.words) (p.heads ++ drop 256 s.heads)
    (p.accs ++ drop 256 s.accs) (p.image ++ drop 32768 s.image)

laid-is : (m : Machine) (s : State) → laid m s ≡ over (laid_in 8 2048 m) s
unfolding laid laid_in
laid-is m s = refl

module _ (p : Parts) (s : State) (l : Long 8 2048 p) where
  within-over : within (over p s) ≡ p
  within-over =
      alike (take_at p.book _ 72 l.book) (take_at p.tags _ 2048 l.tags) (take_at p.words _ 2048 l.words)
      (take_at p.heads _ 256 l.heads) (take_at p.accs _ 256 l.accs) (take_at p.image _ 32768 l.image)

  enough-over : Enough (over p s)
  enough-over = grind (arith, common_steps)

  over-over : (q : Parts) → over q (over p s) ≡ over q s
  over-over q =
      alike
      (ap (λ (x : List ℕ). q.book ++ x) (drop_at p.book _ 72 l.book))
      (ap (λ (x : List ℕ). q.tags ++ x) (drop_at p.tags _ 2048 l.tags))
      (ap (λ (x : List ℕ). q.words ++ x) (drop_at p.words _ 2048 l.words))
      (ap (λ (x : List ℕ). q.heads ++ x) (drop_at p.heads _ 256 l.heads))
      (ap (λ (x : List ℕ). q.accs ++ x) (drop_at p.accs _ 256 l.accs))
      (ap (λ (x : List ℕ). q.image ++ x) (drop_at p.image _ 32768 l.image))

over-within : (s : State) → over (within s) s ≡ s
over-within s =
    alike (take-append-drop 72 s.book) (take-append-drop 2048 s.tags) (take-append-drop 2048 s.words)
    (take-append-drop 256 s.heads) (take-append-drop 256 s.accs) (take-append-drop 32768 s.image)

pub within-long : (s : State) → Enough s → Long 8 2048 (within s)
within-long s h = record {
  book = length-take-le 72 s.book h.book;
  tags = length-take-le 2048 s.tags h.tags;
  words = length-take-le 2048 s.words h.words;
  heads = length-take-le 256 s.heads h.heads;
  accs = length-take-le 256 s.accs h.accs;
  image = length-take-le 32768 s.image h.image;
}

-- ---- a sound machine, laid

machine-lies : (m : Machine) → sound m ≡ true → Lies 8 0 2048 m
machine-lies m e = lies 2048 refl (seats-of m e)

within-laid : (m : Machine) (s : State) → sound m ≡ true → within (laid m s) ≡ laid_in 8 2048 m
within-laid m s e = ap within (laid-is m s) ∙ within-over (laid_in 8 2048 m) s (machine-lies m e).long

pub machine-laid : (m : Machine) (s : State) → sound m ≡ true → long s ≡ true → machine_of (laid m s) ≡ m
unfolding machine_of
machine-laid m s e _ = ap (claims_from 8 0) (within-laid m s e) ∙ (machine-lies m e).claims

pub long-laid : (m : Machine) (s : State) → sound m ≡ true → long s ≡ true → long (laid m s) ≡ true
long-laid m s e _ = rw (laid-is m s) (enough-long _ (enough-over (laid_in 8 2048 m) s (machine-lies m e).long))

pub laid-laid : (m n : Machine) (s : State) → sound n ≡ true → long s ≡ true → laid m (laid n s) ≡ laid m s
laid-laid m n s e _ =
    laid-is m (laid n s) ∙ ap (over (laid_in 8 2048 m)) (laid-is n s) ∙ over-over (laid_in 8 2048 n) s (machine-lies n e).long (laid_in 8 2048 m) ∙ sym (laid-is m s)

pub stands-laid : (m : Machine) (s : State) → sound m ≡ true → long s ≡ true → Stands (laid m s)
stands-laid m s e l = record {
  long = long-laid m s e l;
  sound = rw (machine-laid m s e l) e;
  same = rw (machine-laid m s e l) (laid-laid m m s e l);
}

first-share : {k l : ℕ} {c : Claim} {m : Machine} (s : State) → Seats k l (c ∷ m) → eqb (share (laid (c ∷ m) s)) 0 ≡ false
unfolding laid filled laid_claim laid_book
first-share {c = c} s (more w _) = ne_eqb c.seat.cells 0 (λ z. let h = right-some w in omega arith)

some-seat : (m : Machine) (s : State) → sound m ≡ true → eqb (share (laid m s)) 0 ≡ false
some-seat [] s e = clash (unfold sound may_open shares_of in cc)
some-seat (c ∷ m) s e = first-share s (seats-of (c ∷ m) e)

state-sound : (m : Machine) (s : State) → sound m ≡ true → long s ≡ true → state_sound (laid m s) ≡ true
unfolding state_sound
state-sound m s e l = let i = machine-lies m e in grind (arith, common_steps, long-laid m s e l, some-seat m s e, within-laid m s e)

-- ---- a sound state

claims-some : (k l : ℕ) (p : Parts) → eqb (share p) 0 ≡ false → 1 ≤ length (claims_from (suc k) l p)
claims-some k l p e = grind (arith, claims-taken k l p e)

module _ (s : State) where
  share-within : share (within s) ≡ share s
  share-within = get_or-take 72 s.book 0 0 (omega arith)

  pub sound-stands : state_sound s ≡ true → Stands s
  unfolding state_sound machine_of
  sound-stands e =
      let l : long s ≡ true = grind (arith, common_steps) in
      let o = stood 8 0 2048 (within s) refl (within-long s (long-enough s l)) (grind (arith, common_steps)) in
      let t : eqb (share (within s)) 0 ≡ false = grind (arith, common_steps, share-within) in
      record {
        long = l;
        sound = sound-of (machine_of s) (claims-some 7 0 (within s) t) o.seats;
        same = laid-is (machine_of s) s ∙ ap (λ (p : Parts). over p s) o.same ∙ over-within s;
      }

  pub stands-sound : Stands s → state_sound s ≡ true
  stands-sound h = ap state_sound (sym h.same) ∙ state-sound (machine_of s) s h.sound h.long
