-- Th1's definitions say of the lent buffers what document 01 says, and these keep their lengths.
use Prim.Native.Nat.{ℕ, ◌≤◌}
use native.Mathlib.Omega.{arith}
use mathlib.Core.Path.{◌≡◌, refl, ◌∙◌, ap}
use mathlib.Core.Bool.{Bool, true, false, cond}
use mathlib.Core.Logic.{◌≢◌}
use mathlib.Core.List.{List}
use lib.ListN.{length, drop, replicate, length-append, length-drop, length-replicate}
use lib.Dec.{eqb}
use lib.Seq.{drop-append_seam}
use lib.IntN.{ℤ, pos}
use borrow.Author.Tests.{ne_eqb}
use Rattle.calculus.specs.Rules.{children}
use Rattle.calculus.specs.Meaning.{Assignment}
use Rattle.format.specs.Answer.{encode}
use Rattle.format.specs.Checking.{Outcome, Refused, NoSolution, Strings, verdict}
use Rattle.format.specs.Demands.{answer_after, work_after, Th1Length}
use Rattle.format.proofs.Faults.{clash}
use Rattle.format.proofs.Sizes.{large_enough_law}
use Rattle.format.proofs.Answered.{strings_hold}

-- "A refusal or an accepted "no solution" writes nothing to the answer buffer"
pub refusal_writes_nothing : (c r : ℕ) (answer : List ℕ) → answer_after (Refused c r) answer ≡ answer
refusal_writes_nothing c r answer = refl

pub no_solution_writes_nothing : (answer : List ℕ) → answer_after NoSolution answer ≡ answer
no_solution_writes_nothing answer = refl

-- "and strings write nothing past the answer's length"
pub strings_keep_the_rest : (a : Assignment) (answer : List ℕ) → drop (length (encode a)) (answer_after (Strings a) answer) ≡ drop (length (encode a)) answer
strings_keep_the_rest a answer = drop-append_seam (encode a) (drop (length (encode a)) answer)

-- "The whole work area .. is zero after every call, except that 1 does not touch it"
pub work_untouched_by_1 : (r : ℕ) (w : List ℤ) → work_after (Refused 1 r) w ≡ w
work_untouched_by_1 r w = refl

pub work_zero_after_others : (c r : ℕ) (w : List ℤ) → c ≢ 1 → work_after (Refused c r) w ≡ replicate (length w) (pos 0)
work_zero_after_others c r w h = ap (λ (t : Bool). cond t w (replicate (length w) (pos 0))) (ne_eqb c 1 h)

pub work_zero_after_no_solution : (w : List ℤ) → work_after NoSolution w ≡ replicate (length w) (pos 0)
work_zero_after_no_solution w = refl

pub work_zero_after_strings : (a : Assignment) (w : List ℤ) → work_after (Strings a) w ≡ replicate (length w) (pos 0)
work_zero_after_strings a w = refl

-- ---- the lengths

work_length : (o : Outcome) (w : List ℤ) → length (work_after o w) ≡ length w
work_length (Refused c r) w = by_one (eqb c 1)
  where
    by_one : (x : Bool) → length (cond x w (replicate (length w) (pos 0))) ≡ length w
    by_one true = refl
    by_one false = length-replicate (length w) (pos 0)
work_length NoSolution w = length-replicate (length w) (pos 0)
work_length (Strings a) w = length-replicate (length w) (pos 0)

-- the answer fits, since "1 when .. the answer buffer" has "under 4,268 bytes"
answer_fits : (work answer : ℕ) (t : List ℕ) (a : Assignment) → verdict work answer t ≡ Strings a → length (encode a) ≤ answer
answer_fits work answer t a e =
    let (u, k) = strings_hold work answer t a e in
    let large = large_enough_law children work answer t (λ r z. clash cc) e in
    omega (arith, k.room, large.1)

pub lengths_kept : Th1Length
lengths_kept t work answer = record {
  of_work = work_length (verdict (length work) (length answer) t) work;
  of_the_answer = by_outcome (verdict (length work) (length answer) t) refl;
}
  where
    by_outcome : (o : Outcome) → verdict (length work) (length answer) t ≡ o → length (answer_after o answer) ≡ length answer
    by_outcome (Refused c r) e = refl
    by_outcome NoSolution e = refl
    by_outcome (Strings a) e =
        let n : ℕ = length (encode a) in
        length-append (encode a) (drop n answer) ∙ omega (arith, length-drop n answer, answer_fits (length work) (length answer) t a e)
