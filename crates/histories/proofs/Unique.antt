-- No two different outcomes satisfy a call's contract: not in the answer, as numbers or as the function gives it, and in no byte of any buffer. Assumes nothing.
use Prim.Native.Nat.{ℕ}
use mathlib.Core.Path.{◌≡◌, refl, sym, ap, ◌∙◌}
use mathlib.Core.List.{List}
use Rattle.std.specs.Prelude.{Result, Ok, Err}
use Rattle.rules.specs.declared.CallRefusal.{CallRefusal}
use Rattle.rules.specs.declared.Report.{Report}
use Rattle.rules.specs.Calls.{blank}
use Rattle.rules.specs.Refused.{answered, answered_at}
use Rattle.rules.proofs.Tells.{held, same-answer}
use Rattle.state.specs.State.{State}
use Rattle.calls.specs.Calls.{Moved, moved, Ran, ran, Loaded, loaded, Shown, shown, reported, open_call, run_call, load_call, clear_call, report_call}

-- ---- whole outcomes

pub open-unique : (s : State) (ns : List ℕ) {o p : Moved} → open_call s ns ≡ o → open_call s ns ≡ p → o ≡ p
open-unique s ns e f = sym e ∙ f

pub run-unique : (s : State) (schedule answers : List ℕ) {o p : Ran} → run_call s schedule answers ≡ o → run_call s schedule answers ≡ p → o ≡ p
run-unique s schedule answers e f = sym e ∙ f

pub load-unique : (s : State) (k : ℕ) (image : List ℕ) {o p : Loaded} → load_call s k image ≡ o → load_call s k image ≡ p → o ≡ p
load-unique s k image e f = sym e ∙ f

pub clear-unique : (s : State) (k : ℕ) {o p : Moved} → clear_call s k ≡ o → clear_call s k ≡ p → o ≡ p
clear-unique s k e f = sym e ∙ f

pub report-unique : (s : State) (k : ℕ) {o p : Shown} → report_call s k ≡ o → report_call s k ≡ p → o ≡ p
report-unique s k e f = sym e ∙ f

-- ---- part by part

-- the six lent buffers
pub record SameBytes (s t : State) : Type 0 where
  pub book : s.book ≡ t.book
  pub tags : s.tags ≡ t.tags
  pub words : s.words ≡ t.words
  pub heads : s.heads ≡ t.heads
  pub accs : s.accs ≡ t.accs
  pub images : s.image ≡ t.image

pub same_bytes : {s t : State} → s ≡ t → SameBytes s t
same_bytes e = record {
  book = ap (λ (s : State). s.book) e;
  tags = ap (λ (s : State). s.tags) e;
  words = ap (λ (s : State). s.words) e;
  heads = ap (λ (s : State). s.heads) e;
  accs = ap (λ (s : State). s.accs) e;
  images = ap (λ (s : State). s.image) e;
}

-- an opening's and a clearing's answer and buffers
pub record SameMove (n₁ n₂ : ℕ) (s₁ s₂ : State) : Type 0 where
  pub answer : n₁ ≡ n₂
  pub bytes : SameBytes s₁ s₂

same_move : {n₁ n₂ : ℕ} {s₁ s₂ : State} → moved n₁ s₁ ≡ moved n₂ s₂ → SameMove n₁ n₂ s₁ s₂
same_move e = record { answer = ap (λ (o : Moved). o.answer) e; bytes = same_bytes (ap (λ (o : Moved). o.state) e) }

pub open-same : (s : State) (ns : List ℕ) {n₁ n₂ : ℕ} {s₁ s₂ : State} → open_call s ns ≡ moved n₁ s₁ → open_call s ns ≡ moved n₂ s₂ → SameMove n₁ n₂ s₁ s₂
open-same s ns e f = same_move (open-unique s ns e f)

pub clear-same : (s : State) (k : ℕ) {n₁ n₂ : ℕ} {s₁ s₂ : State} → clear_call s k ≡ moved n₁ s₁ → clear_call s k ≡ moved n₂ s₂ → SameMove n₁ n₂ s₁ s₂
clear-same s k e f = same_move (clear-unique s k e f)

-- a run's, with the buffer of answers
pub record SameRun (n₁ n₂ : ℕ) (s₁ s₂ : State) (a₁ a₂ : List ℕ) : Type 0 where
  pub answer : n₁ ≡ n₂
  pub bytes : SameBytes s₁ s₂
  pub answers : a₁ ≡ a₂

pub run-same : (s : State) (schedule answers : List ℕ) {n₁ n₂ : ℕ} {s₁ s₂ : State} {a₁ a₂ : List ℕ}
    → run_call s schedule answers ≡ ran n₁ s₁ a₁ → run_call s schedule answers ≡ ran n₂ s₂ a₂ → SameRun n₁ n₂ s₁ s₂ a₁ a₂
run-same s schedule answers e f =
    let u = run-unique s schedule answers e f in
    record {
      answer = ap (λ (o : Ran). o.answer) u;
      bytes = same_bytes (ap (λ (o : Ran). o.state) u);
      answers = ap (λ (o : Ran). o.answers) u;
    }

-- a load's, with the place
pub record SameLoad (n₁ n₂ p₁ p₂ : ℕ) (s₁ s₂ : State) : Type 0 where
  pub answer : n₁ ≡ n₂
  pub place : p₁ ≡ p₂
  pub bytes : SameBytes s₁ s₂

pub load_same : (s : State) (k : ℕ) (image : List ℕ) {n₁ n₂ p₁ p₂ : ℕ} {s₁ s₂ : State}
    → load_call s k image ≡ loaded n₁ p₁ s₁ → load_call s k image ≡ loaded n₂ p₂ s₂ → SameLoad n₁ n₂ p₁ p₂ s₁ s₂
load_same s k image e f =
    let u = load-unique s k image e f in
    record {
      answer = ap (λ (o : Loaded). o.answer) u;
      place = ap (λ (o : Loaded). o.place) u;
      bytes = same_bytes (ap (λ (o : Loaded). o.state) u);
    }

-- a report's; it writes to no buffer
pub record SameShow (n₁ n₂ : ℕ) (r₁ r₂ : Report) : Type 0 where
  pub answer : n₁ ≡ n₂
  pub report : r₁ ≡ r₂

pub report-same : (s : State) (k : ℕ) {n₁ n₂ : ℕ} {r₁ r₂ : Report} → report_call s k ≡ shown n₁ r₁ → report_call s k ≡ shown n₂ r₂ → SameShow n₁ n₂ r₁ r₂
report-same s k e f = let u = report-unique s k e f in record { answer = ap (λ (o : Shown). o.answer) u; report = ap (λ (o : Shown). o.report) u }

-- ---- the functions' own answers

-- what every call but a report answers
abbrev Done : Type 0
Done = Result (Unit {0}) CallRefusal

same_done : {a b : Done} → answered a ≡ answered b → answered_at a ≡ answered_at b → a ≡ b
same_done e f = same-answer tt e f refl

-- an opening's, a load's and a clearing's, and the buffers
pub record SameResult (a b : Done) (s₁ s₂ : State) : Type 0 where
  pub answer : a ≡ b
  pub bytes : SameBytes s₁ s₂

same_result : {a b : Done} {s₁ s₂ : State} → SameMove (answered a) (answered b) s₁ s₂ → answered_at a ≡ 0 → answered_at b ≡ 0 → SameResult a b s₁ s₂
same_result m p q = record { answer = same_done m.answer (p ∙ sym q); bytes = m.bytes }

pub open-same-result : (s : State) (ns : List ℕ) {a b : Done} {s₁ s₂ : State}
    → open_call s ns ≡ moved (answered a) s₁ → answered_at a ≡ 0 → open_call s ns ≡ moved (answered b) s₂ → answered_at b ≡ 0 → SameResult a b s₁ s₂
open-same-result s ns e p f q = same_result (open-same s ns e f) p q

pub clear-same-result : (s : State) (k : ℕ) {a b : Done} {s₁ s₂ : State}
    → clear_call s k ≡ moved (answered a) s₁ → answered_at a ≡ 0 → clear_call s k ≡ moved (answered b) s₂ → answered_at b ≡ 0 → SameResult a b s₁ s₂
clear-same-result s k e p f q = same_result (clear-same s k e f) p q

pub load-same-result : (s : State) (k : ℕ) (image : List ℕ) {a b : Done} {s₁ s₂ : State}
    → load_call s k image ≡ loaded (answered a) (answered_at a) s₁ → load_call s k image ≡ loaded (answered b) (answered_at b) s₂ → SameResult a b s₁ s₂
load-same-result s k image e f = let m = load_same s k image e f in record { answer = same_done m.answer m.place; bytes = m.bytes }

-- a run's, with the buffer of answers
pub record SameRunResult (a b : Done) (s₁ s₂ : State) (a₁ a₂ : List ℕ) : Type 0 where
  pub answer : a ≡ b
  pub bytes : SameBytes s₁ s₂
  pub answers : a₁ ≡ a₂

pub run-same-result : (s : State) (schedule answers : List ℕ) {a b : Done} {s₁ s₂ : State} {a₁ a₂ : List ℕ}
    → run_call s schedule answers ≡ ran (answered a) s₁ a₁ → answered_at a ≡ 0 → run_call s schedule answers ≡ ran (answered b) s₂ a₂ → answered_at b ≡ 0
    → SameRunResult a b s₁ s₂ a₁ a₂
run-same-result s schedule answers e p f q =
    let m = run-same s schedule answers e f in
    record { answer = same_done m.answer (p ∙ sym q); bytes = m.bytes; answers = m.answers }

-- a report's
reported-held : (a : Result Report CallRefusal) → held blank a ≡ reported a
reported-held (Ok r) = refl
reported-held (Err e) = refl

pub report-same-result : (s : State) (k : ℕ) {a b : Result Report CallRefusal}
    → report_call s k ≡ shown (answered a) (reported a) → answered_at a ≡ 0 → report_call s k ≡ shown (answered b) (reported b) → answered_at b ≡ 0 → a ≡ b
report-same-result s k {a} {b} e p f q =
    let m = report-same s k e f in
    same-answer blank m.answer (p ∙ sym q) (reported-held a ∙ m.report ∙ sym (reported-held b))
