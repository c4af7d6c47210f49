-- Demand 3 of the code: it follows from the contract of `check_ticket` as it stands, by Th1Length, Th4, Th5 and ThL5.
use Prim.Native.Nat.{ℕ, suc, ◌+◌, ◌-◌, ◌<◌, ◌≤◌}
use native.Mathlib.Omega.{arith}
use native.Mathlib.Decide.{dec_lt}
use native.Mathlib.Nat.{zero-add}
use mathlib.Core.Path.{◌≡◌, refl, sym, ◌∙◌, ap, subst}
use mathlib.Core.Bool.{Bool, true, false, cond}
use mathlib.Core.Option.{some}
use mathlib.Core.List.{List, [], ◌∷◌}
use lib.ListN.{length, get_or, get_elem?}
use lib.IntN.{ℤ}
use borrow.Author.Tests.{lt-ltb, le-ltb}
use Rattle.lists.specs.Lists.{All}
use Rattle.lists.proofs.Lists.{element_none}
use Rattle.lists.proofs.Options.{some_injective, none_some}
use Rattle.calculus.specs.Limits.{fact_limit}
use Rattle.calculus.specs.Facts.{Question, Fact, Branch}
use Rattle.calculus.specs.Cores.{Set, chosen_from}
use Rattle.calculus.specs.Rules.{children}
use Rattle.calculus.specs.Meaning.{Meets}
use Rattle.format.specs.Checking as format
use Rattle.format.specs.Checking.{verdict}
use Rattle.format.specs.Cores.{core_of, flag, low, high}
use Rattle.format.specs.Question.{question_of}
use Rattle.format.specs.Demands.{bit, answer_after, work_after, NoAssignment}
use Rattle.format.proofs.Buffers.{lengths_kept}
use Rattle.format.proofs.Claimed.{claimed_asked}
use Rattle.format.proofs.NoSolution.{accepted→closed}
use Rattle.format.proofs.Demands.{demands}
use Rattle.std.specs.Prelude.{Result, Ok, Err}
use Rattle.faults.specs.declared.Refusal.{Refusal}
use Rattle.deciding.specs.declared.Verdict.{Verdict}
use Rattle.deciding.specs.declared.Verdict.TheVariants.{NoSolution, Strings}
use Rattle.deciding.specs.Outcomes as outcomes
use Rattle.deciding.specs.Outcomes.{Told, told, told_by}
use Rattle.checking.specs.Outcomes.{Promised}
use Rattle.checking.specs.Theory.{TookPart, NoSolutionIsTrue, StringsAreTrue, IsTrue, Theory}

-- ---- the set

-- what holds of each constraint in the set holds of those chosen
all_chosen : (P : Fact → Type 0) (s : Set) (i : ℕ) (b : Branch)
    → ((k : ℕ) (f : Fact) → get_elem? b k ≡ some f → get_or s (i + k) false ≡ true → P f)
    → All P (chosen_from i s b)
unfolding chosen_from
all_chosen P s i [] h = tt
all_chosen P s i (f ∷ b) h = go (get_or s i false) refl (all_chosen P s (suc i) b (λ k g e t. h (suc k) g e (subst (λ j. get_or s j false ≡ true) (behind k) t)))
  where
    behind : (k : ℕ) → suc i + k ≡ i + suc k
    behind k = omega arith

    here : i ≡ i + 0
    here = omega arith

    go : (x : Bool) → get_or s i false ≡ x → All P (chosen_from (suc i) s b) → All P (cond x (f ∷ chosen_from (suc i) s b) (chosen_from (suc i) s b))
    go true e hs = (h 0 f refl (subst (λ j. get_or s j false ≡ true) here e), hs)
    go false e hs = hs

-- the two numbers hold it
in_numbers : (s : Set) (k : ℕ) → k < 128 → get_or s k false ≡ true → TookPart (low s) (high s) k
in_numbers s k few e = go (dec_lt k 64)
  where
    go : Dec (k < 64) → TookPart (low s) (high s) k
    go (yes h) = ap (λ x. cond x (bit k (low s)) (bit (k - 64) (high s))) (lt-ltb k 64 h) ∙ (demands.th_l5_words s k h).0 ∙ ap flag e
    go (no h) =
        let same : 64 + (k - 64) ≡ k = omega arith in
        ap (λ x. cond x (bit k (low s)) (bit (k - 64) (high s))) (le-ltb k 64 (omega arith)) ∙ (demands.th_l5_words s (k - 64) (omega arith)).1
        ∙ ap (λ j. flag (get_or s j false)) same ∙ ap flag e

there : {A : Type 0} (xs : List A) (k : ℕ) {x : A} → get_elem? xs k ≡ some x → k < length xs
there xs k e = go (dec_lt k (length xs))
  where
    go : Dec (k < length xs) → k < length xs
    go (yes h) = h
    go (no h) = absurd (none_some (sym (element_none xs k (omega arith)) ∙ e))

-- ---- by the outcome

one_question : (ticket : List ℕ) {u v : Question} → question_of ticket ≡ some u → question_of ticket ≡ some v → u ≡ v
one_question ticket e f = some_injective (sym e ∙ f)

module _ (ticket : List ℕ) (work : List ℤ) (answer answer' : List ℕ) where
  no_solution_true : (set : Set) → verdict (length work) (length answer) ticket ≡ format.NoSolution → set ≡ core_of format.NoSolution ticket → answer' ≡ answer
      → NoSolutionIsTrue ticket answer answer' (low set) (high set)
  no_solution_true set e is kept =
      let (u, asked, none) = demands.th_4 (length work) (length answer) ticket e in
      let (v, asked', _, none') = demands.th_l5 (length work) (length answer) ticket e in
      let (w, closed) = accepted→closed children (length work) (length answer) ticket e in
      let same : w ≡ v = one_question ticket (claimed_asked closed.held.claimed) asked' in
      let few : length v.constraints ≤ fact_limit = subst (λ (x : Question). length x.constraints ≤ fact_limit) same closed.few in
      let returned : set ≡ core_of (verdict (length work) (length answer) ticket) ticket = is ∙ sym (ap (λ o. core_of o ticket) e) in
      record {
        question = v;
        asked = asked';
        begins = λ bytes. (demands.th_put ticket bytes v).0 asked';
        none_meets = subst NoAssignment (one_question ticket asked asked') none;
        none_meets_those = λ a f met. none' a f (subst (λ s. All (Meets v a) (chosen_from 0 s v.constraints)) returned (all_chosen (Meets v a) set 0 v.constraints
            (λ k g e t. met k g e (in_numbers set k (omega (arith, there v.constraints k e, few)) (ap (λ j. get_or set j false) (sym (zero-add k)) ∙ t)))));
        untouched = kept;
      }

  -- by what is told
  abbrev pub IsTold : Told → Type 0
  IsTold (outcomes.Refused c r) = answer' ≡ answer
  IsTold (outcomes.NoSolution x y) = NoSolutionIsTrue ticket answer answer' x y
  IsTold outcomes.Strings = StringsAreTrue ticket answer answer'

  pub by_code : (r : Result Verdict Refusal) → IsTold (told_by r) → IsTrue ticket answer answer' r
  by_code (Err f) h = h
  by_code (Ok (NoSolution words)) h = h
  by_code (Ok Strings) h = h

  by_outcome : (o : format.Outcome) (set : Set) → verdict (length work) (length answer) ticket ≡ o → set ≡ core_of o ticket → answer' ≡ answer_after o answer
      → IsTold (told o set)
  unfolding told
  by_outcome (format.Refused c r) set e is kept = kept
  by_outcome format.NoSolution set e is kept = no_solution_true set e is kept
  by_outcome (format.Strings a) set e is kept =
      let (u, answered) = demands.th_5 (length work) (length answer) ticket a e in
      record { question = u; given = a; stands = kept; begins = λ bytes. (demands.th_put ticket bytes u).0 answered.asked; answered = answered }

pub checked_is_true : {ticket : List ℕ} {work work' : List ℤ} {answer answer' : List ℕ} {r : Result Verdict Refusal} → Promised ticket work work' answer answer' r
    → Theory ticket work work' answer answer' r
checked_is_true {ticket} {work} {work'} {answer} {answer'} {r} h =
    let c = h.checked in
    let kept = lengths_kept ticket work answer in
    record {
      is_true = by_code ticket work answer answer' r (subst (IsTold ticket work answer answer') (sym h.tells)
          (by_outcome ticket work answer answer' h.outcome h.set (sym c.outcome) c.took_part c.answer_is));
      answer_length = ap length (c.answer_is ∙ ap (λ o. answer_after o answer) c.outcome) ∙ kept.of_the_answer;
      work_length = ap length (c.work_is ∙ ap (λ o. work_after o work) c.outcome) ∙ kept.of_work;
    }
