-- What document 01 allows has the ranges that the rules rest on.
use Rattle.lists.proofs.Lists.{all_map}
use Rattle.calculus.specs.Facts.{Question, Fact, same, not_same, is_literal, arithmetic}
use Rattle.calculus.specs.InRange.{HeadInRange, FactInRange, FactsInRange}
use Rattle.calculus.specs.Steps.{Step, Sum, BranchOn, Apart, AConf, SConf, SProp, LIntro, LValid, CCollapse, CValid, CInj, Card, Join}
use Rattle.calculus.specs.Instances.{IsStep}
use Rattle.format.specs.Written.{ConstraintInRange, QuestionInRange, OperandsInRange}

-- a step whose operands are in range is a step of the question
pub operands→step : (u : Question) (st : Step) → OperandsInRange u st → IsStep u st
unfolding OperandsInRange IsStep
operands→step u (Sum d ts) h = (h.divisor, h.some_pair)
operands→step u (BranchOn e) h = h.size
operands→step u (Apart k) h = tt
operands→step u (AConf k) h = tt
operands→step u SConf h = tt
operands→step u (SProp f x y) h = h
operands→step u (LIntro x) h = h
operands→step u (LValid x) h = h
operands→step u (CCollapse x) h = h
operands→step u (CValid x) h = h
operands→step u (CInj x y) h = h
operands→step u (Card xs) h = (h.2, h.0)
operands→step u (Join j k) h = tt

constraint_fits : (u : Question) (f : Fact) → ConstraintInRange u f → FactInRange u f
unfolding ConstraintInRange
constraint_fits u (same x y) h = h
constraint_fits u (not_same x y) h = h
constraint_fits u (is_literal x l) h = h
constraint_fits u (arithmetic r e) h = h.size

module _ (u : Question) (q : QuestionInRange u) where
  pub question→head : HeadInRange u
  question→head = record { alphabet = q.some_character; strings = q.few_strings; integers = q.few_integers; literals = q.few_literals }

  pub question→facts : FactsInRange u u.constraints
  question→facts = all_map u.constraints (constraint_fits u) q.constraints
