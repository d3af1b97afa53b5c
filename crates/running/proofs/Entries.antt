-- The loop of a run: what is left of the schedule, from the state reached, comes to what the run comes to from its start. Assumes nothing.
use Prim.Native.Nat.{ℕ, suc, ◌+◌, ◌≤◌, ◌<◌}
use native.Mathlib.Omega.{arith}
use native.Mathlib.Numerals.{add-one}
use mathlib.Core.Path.{◌≡◌, refl, ap, subst, sym, ◌∙◌}
use mathlib.Core.Bool.{true}
use mathlib.Core.List.{List, [], ◌∷◌, ◌++◌, map, append_assoc}
use lib.ListN.{length, get_or, set, take, drop, length-set, drop_of_length-le, take-append-drop}
use lib.Seq.{drop-cons, take-suc-set, drop-set-lt, drop-drop}
use Rattle.rules.specs.Calls.{Machine, picks, Message, message, tell, after, replies, entries, number_in}
use Rattle.rules.specs.Sound.{sound}
use Rattle.soundness.proofs.Machines.{sound-kept}
use Rattle.state.specs.State.{State, laid, machine_of, Stands}
use Rattle.state.proofs.Stands.{machine-laid, laid-laid, stands-laid}
use Rattle.calls.specs.Calls.{Moved, moved, said_to, Ran, ran, over, ran_on}

-- one more answer
answers-on : (l a : List ℕ) (i r : ℕ) → i < length l → take i l ++ over (r ∷ a) (drop i l) ≡ take (i + 1) (set l i r) ++ over a (drop (i + 1) (set l i r))
unfolding over
answers-on l a i r h =
    let z : i + suc (length a) ≡ suc i + length a = omega arith in
    rw (add-one i, take-suc-set l i r h, drop-set-lt (suc i) l i r (omega arith), drop-drop (suc (length a)) i l, drop-drop (length a) (suc i) l, z)
    (sym (append_assoc (take i l) (r ∷ []) (a ++ drop (suc i + length a) l)))

-- the i-th entry of a schedule, and those from it on
abbrev pub entry_at : List ℕ → ℕ → Message
entry_at schedule i = message (get_or schedule (i + i) 0) (picks (get_or schedule (i + i + 1) 0))

abbrev entries_from : List ℕ → ℕ → List Message
entries_from schedule i = entries (drop (i + i) schedule)

entries_next : (schedule : List ℕ) (i : ℕ) → i + i + 1 < length schedule → entries_from schedule i ≡ entry_at schedule i ∷ entries_from schedule (i + 1)
unfolding entries
entries_next schedule i h =
    let z : i + 1 + (i + 1) ≡ suc (suc (i + i)) = omega arith in
    rw (z, add-one (i + i), drop-cons schedule (i + i) 0 (omega arith), drop-cons schedule (suc (i + i)) 0 (omega arith))

-- ---- one entry

-- the run of the entries from the i-th on, from s, the first i answers being there
abbrev left : List ℕ → ℕ → State → List ℕ → Ran
left schedule i s answers =
    ran 0 (laid (after (machine_of s) (entries_from schedule i)) s) (take i answers ++ over (map number_in (replies (machine_of s) (entries_from schedule i))) (drop i answers))

module _ {s s' : State} {r : ℕ} (t : Stands s) (k p : ℕ) (e : said_to (machine_of s) s k (picks p) ≡ moved r s') where
  abbrev then : Machine
  then = (tell (machine_of s) (message k (picks p))).machine

  sound-then : sound then ≡ true
  sound-then = sound-kept (machine_of s) (message k (picks p)) t.sound tt

  lies : s' ≡ laid then s
  unfolding said_to
  lies = ap (λ (x : Moved). x.state) (sym e)

  answered : number_in (tell (machine_of s) (message k (picks p))).reply ≡ r
  unfolding said_to
  answered = ap (λ (x : Moved). x.answer) e

  stands-then : Stands s'
  stands-then = subst (λ (x : State). Stands x) (sym lies) (stands-laid then s sound-then t.long)

  machine-then : machine_of s' ≡ then
  machine-then = ap machine_of lies ∙ machine-laid then s sound-then t.long

  laid_then : (m : Machine) → laid m s' ≡ laid m s
  laid_then m = ap (laid m) lies ∙ laid-laid m then s sound-then t.long

left-on : (schedule answers : List ℕ) (i : ℕ) {s s' : State} {r : ℕ} → Stands s → i + i + 1 < length schedule → i < length answers
    → said_to (machine_of s) s (get_or schedule (i + i) 0) (picks (get_or schedule (i + i + 1) 0)) ≡ moved r s'
    → left schedule i s answers ≡ left schedule (i + 1) s' (set answers i r)
unfolding after replies
left-on schedule answers i {s} {s'} {r} t h l e =
    let k = get_or schedule (i + i) 0 in
    let p = get_or schedule (i + i + 1) 0 in
    let m = (tell (machine_of s) (message k (picks p))).machine in
    let es = entries_from schedule (i + 1) in
    rw (entries_next schedule i h, answered t k p e, machine-then t k p e, laid_then t k p e (after m es))
    (ap (λ (a : List ℕ). ran 0 (laid (after m es) s) a) (answers-on answers (map number_in (replies m es)) i r l))

-- ---- the loop

-- each buffer that a run writes is as long as it was
pub record AsLong (s₀ s : State) : Type 0 where
  pub book : length s.book ≡ length s₀.book
  pub tags : length s.tags ≡ length s₀.tags
  pub words : length s.words ≡ length s₀.words
  pub heads : length s.heads ≡ length s₀.heads
  pub accs : length s.accs ≡ length s₀.accs

as-long-on : {s₀ s s' : State} → AsLong s₀ s → AsLong s s' → AsLong s₀ s'
as-long-on a b =
    record { book = b.book ∙ a.book; tags = b.tags ∙ a.tags; words = b.words ∙ a.words; heads = b.heads ∙ a.heads; accs = b.accs ∙ a.accs }

module _ (schedule answers₀ : List ℕ) (s₀ : State) (n : ℕ) where
  -- after i entries s is reached, and a of the answers
  pub record Reached (i : ℕ) (s : State) (a : List ℕ) : Type 0 where
    pub below : i ≤ n
    pub entries : length schedule ≡ n + n
    pub room : n ≤ length a
    pub stands : Stands s
    pub same : ran_on (machine_of s₀) s₀ schedule answers₀ ≡ left schedule i s a
    pub kept : AsLong s₀ s
    pub answers : length a ≡ length answers₀

  pub run-starts : Stands s₀ → length schedule ≡ n + n → n ≤ length answers₀ → Reached 0 s₀ answers₀
  unfolding ran_on
  run-starts t e h =
      record {
        below = omega arith;
        entries = e;
        room = h;
        stands = t;
        same = refl;
        kept = record { book = refl; tags = refl; words = refl; heads = refl; accs = refl };
        answers = refl;
      }

  pub run-goes-on : {i r x : ℕ} {s s' : State} {a : List ℕ} → Reached i s a → i < n
      → said_to (machine_of s) s (get_or schedule (i + i) 0) (picks (get_or schedule (i + i + 1) 0)) ≡ moved r s' → x ≡ r → AsLong s s' → Reached (i + 1) s' (set a i x)
  run-goes-on {i} {x = x} {s} {s'} {a} v h e q l =
      let b = v.entries in
      let d = v.room in
      let z = length-set a i x in
      record {
        below = omega arith;
        entries = b;
        room = omega arith;
        stands = stands-then v.stands _ _ e;
        same = v.same ∙ left-on schedule a i v.stands (omega arith) (omega arith) (rw q e);
        kept = as-long-on v.kept l;
        answers = z ∙ v.answers;
      }

  pub run_ends : {i : ℕ} {s : State} {a : List ℕ} → Reached i s a → n ≤ i → ran_on (machine_of s₀) s₀ schedule answers₀ ≡ ran 0 s a
  unfolding entries after replies over
  run_ends {i} {s} {a} v h =
      let b = v.entries in
      let z : length schedule ≤ i + i = omega arith in
      v.same ∙ rw (drop_of_length-le schedule z, take-append-drop i a) (ap (λ (x : State). ran 0 x a) v.stands.same)
