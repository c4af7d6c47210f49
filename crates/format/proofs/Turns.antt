-- One turn of reading a question, by position: the laws that a loop over its records needs, and that what every turn keeps holds where reading comes to.
use Prim.Native.Nat.{ℕ, zero, suc, ◌+◌, ◌<◌, ◌≤◌}
use native.Mathlib.Omega.{arith}
use mathlib.Core.Path.{◌≡◌, refl, sym, ◌∙◌, ap, subst}
use mathlib.Core.Bool.{Bool, true, false}
use mathlib.Core.List.{List}
use lib.ListN.{length}
use lib.Dec.{leb}
use borrow.Author.Tests.{leb-true, leb-false, le-leb, lt-leb}
use Rattle.calculus.specs.Limits.{ticket_bytes}
use Rattle.format.specs.Records.{kind, next}
use Rattle.format.specs.Question.{Progress, unread, question_advanced, Reading, Stopped, Ended, ending, read_from, read_on, read_by}
use Rattle.format.proofs.Records.{records_none, records_more}

module _ (test : List ℕ → Progress → ℕ → ℕ) (b : List ℕ) where
  -- the outcome of a turn, by whether the record ends the question and by its number
  abbrev turn : Progress → ℕ → ℕ → Bool → ℕ → Reading
  turn s r at x f = elim x as (λ _. Reading) [
    | true ↦ Ended s at r
    | false ↦ elim f as (λ _. Reading) [ zero ↦ read_on test b (question_advanced b s at) (suc r) (next b at) | suc c ↦ Stopped (suc c) r ]
  ]

  read_turn : (s : Progress) (r at : ℕ) → at + 6 ≤ length b → read_on test b s r at ≡ turn s r at (ending (kind b at)) (test b s at)
  unfolding read_from
  read_turn s r at h = ap (read_from test b s r) (records_more b at h)

  pub read_none : (s : Progress) (r at : ℕ) → length b < at + 6 → read_on test b s r at ≡ Stopped 3 r
  unfolding read_from
  read_none s r at h = ap (read_from test b s r) (records_none b at h)

  pub read_ended : (s : Progress) (r at : ℕ) → at + 6 ≤ length b → ending (kind b at) ≡ true → read_on test b s r at ≡ Ended s at r
  read_ended s r at h e = read_turn s r at h ∙ ap (λ x. turn s r at x (test b s at)) e

  pub read_stopped : (s : Progress) (r at c : ℕ)
      → at + 6 ≤ length b
      → ending (kind b at) ≡ false
      → test b s at ≡ suc c
      → read_on test b s r at ≡ Stopped (suc c) r
  read_stopped s r at c h e f = read_turn s r at h ∙ ap (λ x. turn s r at x (test b s at)) e ∙ ap (turn s r at false) f

  pub read_more : (s : Progress) (r at : ℕ) → at + 6 ≤ length b → ending (kind b at) ≡ false → test b s at ≡ 0
      → read_on test b s r at ≡ read_on test b (question_advanced b s at) (suc r) (next b at)
  read_more s r at h e f = read_turn s r at h ∙ ap (λ x. turn s r at x (test b s at)) e ∙ ap (turn s r at false) f

  -- "2 when the ticket is too long"
  abbrev by_size : Bool → Reading
  by_size x = elim x as (λ _. Reading) [ false ↦ Stopped 2 0 | true ↦ read_on test b unread 0 0 ]

  pub read_long : ticket_bytes < length b → read_by test b ≡ Stopped 2 0
  unfolding read_by
  read_long h = ap by_size (lt-leb (length b) ticket_bytes h)

  pub read_begin : length b ≤ ticket_bytes → read_by test b ≡ read_on test b unread 0 0
  unfolding read_by
  read_begin h = ap by_size (le-leb (length b) ticket_bytes h)

-- ---- what holds where reading begins, and after each record without fault, holds where it comes to

-- where reading comes to, by its outcome: I says something of what was read, of the record's number and of its position
pub data Comes (test : List ℕ → Progress → ℕ → ℕ) (b : List ℕ) (I : Progress → ℕ → ℕ → Type 0) : Reading → Type 0 where
  ends : {s : Progress} {r at : ℕ} → I s r at → at + 6 ≤ length b → ending (kind b at) ≡ true → Comes test b I (Ended s at r)
  stops : {s : Progress} {r at c : ℕ} → I s r at → at + 6 ≤ length b → ending (kind b at) ≡ false → test b s at ≡ suc c → Comes test b I (Stopped (suc c) r)
  lacks : {s : Progress} {r at : ℕ} → I s r at → length b < at + 6 → Comes test b I (Stopped 3 r)

module _ (test : List ℕ → Progress → ℕ → ℕ) (b : List ℕ) (I : Progress → ℕ → ℕ → Type 0)
    (keeps : (s : Progress) (r at : ℕ) → I s r at → at + 6 ≤ length b → test b s at ≡ 0 → I (question_advanced b s at) (suc r) (next b at)) where
  comes_from : (d : ℕ) (s : Progress) (r at : ℕ) → length b ≤ at + d → I s r at → Comes test b I (read_on test b s r at)
  comes_from zero s r at l h = let short : length b < at + 6 = omega arith in subst (Comes test b I) (sym (read_none test b s r at short)) (lacks h short)
  comes_from (suc d) s r at l h =
      go (leb (at + 6) (length b)) (ending (kind b at)) (test b s at) refl refl refl
      (λ six f. comes_from d (question_advanced b s at) (suc r) (next b at) (omega arith) (keeps s r at h six f))
    where
      go : (x y : Bool) (f : ℕ) → leb (at + 6) (length b) ≡ x → ending (kind b at) ≡ y → test b s at ≡ f
          → (at + 6 ≤ length b → test b s at ≡ 0 → Comes test b I (read_on test b (question_advanced b s at) (suc r) (next b at)))
          → Comes test b I (read_on test b s r at)
      go false y f ex ey ef later =
          let short : length b < at + 6 = leb-false (at + 6) (length b) ex in subst (Comes test b I) (sym (read_none test b s r at short)) (lacks h short)
      go true true f ex ey ef later =
          let six = leb-true (at + 6) (length b) ex in subst (Comes test b I) (sym (read_ended test b s r at six ey)) (ends h six ey)
      go true false (suc f) ex ey ef later =
          let six = leb-true (at + 6) (length b) ex in subst (Comes test b I) (sym (read_stopped test b s r at f six ey ef)) (stops h six ey ef)
      go true false zero ex ey ef later =
          let six = leb-true (at + 6) (length b) ex in subst (Comes test b I) (sym (read_more test b s r at six ey ef)) (later six ef)

  pub comes : I unread 0 0 → length b ≤ ticket_bytes → Comes test b I (read_by test b)
  comes h l = subst (Comes test b I) (sym (read_begin test b l)) (comes_from (length b) unread 0 0 (omega arith) h)
