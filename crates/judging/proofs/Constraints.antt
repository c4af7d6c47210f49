-- What a string constraint says of the answer's strings and the question's literals, and where these stand.
use Prim.Native.Nat.{ℕ, ◌≤◌, ◌<◌}
use native.Mathlib.Omega.{arith}
use mathlib.Core.Path.{◌≡◌, sym, ◌∙◌, ap, subst}
use mathlib.Core.Bool.{not}
use mathlib.Core.List.{List}
use lib.ListN.{length, get_or}
use Rattle.calculus.specs.Facts.{Question, literal}
use Rattle.calculus.specs.Meaning.{Assignment, str}
use Rattle.calculus.specs.Strings.{eq_string}
use Rattle.format.specs.Records.{next}
use Rattle.format.specs.Question.{string_fact}
use Rattle.format.specs.Judging.{meets}
use Rattle.format.specs.Places.{text_at}
use Rattle.question.specs.declared.Progress.{Progress}
use Rattle.question.specs.Posed.{asked}
use Rattle.format.proofs.Answers.{text_there}
use Rattle.format.proofs.Places.{text_at_law}
use Rattle.judging.specs.Ready.{values_of, Texts}

-- ---- string constraints, by the relation

module _ (u : Question) (a : Assignment) (r x y : ℕ) where
  pub same_met : r ≡ 0 → eq_string (str a x) (str a y) ≡ meets u a (string_fact r x y)
  same_met e = ap (λ (z : ℕ). meets u a (string_fact z x y)) (sym e)

  pub not_same_met : r ≡ 1 → not (eq_string (str a x) (str a y)) ≡ meets u a (string_fact r x y)
  not_same_met e = ap (λ (z : ℕ). meets u a (string_fact z x y)) (sym e)

  pub literal_met : r ≡ 2 → eq_string (str a x) (literal u y) ≡ meets u a (string_fact r x y)
  literal_met e = ap (λ (z : ℕ). meets u a (string_fact z x y)) (sym e)

-- ---- strings and literals at their places

module _ (b v : List ℕ) (s : Progress) (places : List ℕ) (t : Texts b v s places) where
  pub text_room : (x : ℕ) → x < s.p → next v (get_or places x 0) ≤ length v
  text_room x h = subst (λ (k : ℕ). next v k ≤ length v) (sym (t.placed x (omega arith))) (text_there v s.p s.q t.formed x h)

  pub text_is : (x : ℕ) → x < s.p → text_at v (get_or places x 0) ≡ str (values_of b v s) x
  unfolding asked
  text_is x h = ap (text_at v) (t.placed x (omega arith)) ∙ sym (text_at_law v x s.p 0 h)
