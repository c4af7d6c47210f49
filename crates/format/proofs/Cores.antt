-- ThL5: the constraints in the core of an accepted "no solution" alone have no solution; and the two numbers hold its flags.
use Prim.Native.Nat.{ℕ, zero, suc, ◌+◌, ◌*◌, ◌/◌, ◌%◌, ◌^◌, ◌≤◌}
use native.Mathlib.Omega.{arith}
use native.Mathlib.Nat.{zero-div, div-div-eq-div-mul, pow-succ'}
use mathlib.Core.Path.{◌≡◌, refl, sym, ◌∙◌, ap, subst}
use mathlib.Core.Logic.{◌≢◌}
use mathlib.Core.Bool.{Bool, true, false}
use mathlib.Core.Option.{none, some}
use mathlib.Core.List.{List, [], ◌∷◌}
use lib.ListN.{length, get_or, take, drop}
use lib.Seq.{get_or-take, get_or-drop}
use Rattle.calculus.specs.Facts.{Question}
use Rattle.calculus.specs.Rules.{children}
use Rattle.calculus.specs.Walk.{working}
use Rattle.calculus.specs.Meaning.{Met}
use Rattle.calculus.specs.Cores.{Set, chosen_from, core_in}
use Rattle.calculus.proofs.Cores.{core_unsolvable, core_of_question}
use Rattle.format.specs.Question.{question_of}
use Rattle.format.specs.Checking.{Outcome, Refused, NoSolution, Strings, verdict}
use Rattle.format.specs.ProperForm.{steps, steps_with_child}
use Rattle.format.specs.Cores.{core_asked, core, core_of, flag, word}
use Rattle.format.specs.Demands.{returned_set, bit, ThL5, ThL5Empty, ThL5Words}
use Rattle.format.proofs.Claimed.{claimed_asked, claimed_in_range}
use Rattle.format.proofs.Tickets.{steps_in_range}
use Rattle.format.proofs.Checker.{proved→walked}
use Rattle.format.proofs.NoSolution.{all_bare, accepted→closed}

pub core_asked_law : (t : List ℕ) (u : Question) → question_of t ≡ some u → core t ≡ core_in u (steps t)
unfolding core
core_asked_law t u e = ap (λ o. core_asked o (steps t)) e

pub core_clashes : ThL5
core_clashes work answer t e =
    let (u, c) = accepted→closed children work answer t e in
    let q = claimed_in_range c.held.claimed in
    let asked : question_of t ≡ some u = claimed_asked c.held.claimed in
    let same : returned_set work answer t ≡ core_in u (steps t) = ap (λ o. core_of o t) e ∙ core_asked_law t u asked in (
      u,
      asked,
      subst (λ s. length s ≤ length u.constraints) (sym same) (core_of_question u (steps t)),
      λ a f m. core_unsolvable u (steps t) q.head q.literals_differ q.constraints (all_bare u (steps_with_child t) (steps_in_range c.held))
          (proved→walked children u (working u.constraints []) (steps_with_child t) none c.taken) a f
          (subst (λ s. Met u a (chosen_from 0 s u.constraints)) same m),
    )

pub others_empty : ThL5Empty
others_empty work answer t other = by_outcome (verdict work answer t) other
  where
    by_outcome : (o : Outcome) → o ≢ NoSolution → core_of o t ≡ []
    by_outcome (Refused c r) other = refl
    by_outcome NoSolution other = absurd (other refl)
    by_outcome (Strings a) other = refl

-- ---- bits

pub first_bit : (n : ℕ) (x : Bool) → (n * 2 + flag x) % 2 ≡ flag x
first_bit n true = omega arith
first_bit n false = omega arith

pub half : (n : ℕ) (x : Bool) → (n * 2 + flag x) / 2 ≡ n
half n true = omega arith
half n false = omega arith

word_bit : (s : Set) (k : ℕ) → bit k (word s) ≡ flag (get_or s k false)
unfolding word
word_bit [] k = ap (λ n. n % 2) (zero-div (2 ^ k))
word_bit (x ∷ s) zero = omega (arith, first_bit (word s) x)
word_bit (x ∷ s) (suc k) =
    let n : ℕ = word s * 2 + flag x in
    ap (λ (d : ℕ). (n / d) % 2) (pow-succ' 2 k) ∙ ap (λ (m : ℕ). m % 2) (sym (div-div-eq-div-mul n 2 (2 ^ k))) ∙ ap (λ (m : ℕ). (m / 2 ^ k) % 2) (half (word s) x) ∙ word_bit s k

pub words_hold_flags : ThL5Words
words_hold_flags s k h = (
  word_bit (take 64 s) k ∙ ap flag (get_or-take 64 s k false h),
  word_bit (take 64 (drop 64 s)) k ∙ ap flag (get_or-take 64 (drop 64 s) k false h ∙ get_or-drop 64 s k false),
)
